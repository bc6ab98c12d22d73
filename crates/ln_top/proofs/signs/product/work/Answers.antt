use Rattle.ln_top.proofs.FrameLemmas.Carry.{carried_by}
use Rattle.ln_top.proofs.SignsLemmas.RunLaws.{has_records}
use Rattle.ln_top.proofs.TargetLemmas.FactorsLaws.{programs_had}
use Rattle.ln_top.proofs.signs.product.work.Goals as goal

pub returns : goal.returns
returns g c = λ given s.
    let there = c.in_ok-factors.ensures.given given s in
    let factors = c.in_ok-factors.ensures.factors in
    carried_by (programs_had _ factors.kept _ _ factors.places there.programs)
    (rw c.no_watchers.ensures at (c.put_lines.ensures given there.programs (has_records there.preds there.names (c.short_text.ensures.is given s))))
