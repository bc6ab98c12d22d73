use Rattle.std.proofs.Common.{◌∙◌, ap, refl}
use Rattle.ln_top.proofs.SignsLemmas.RunLaws.{has_records}
use Rattle.ln_top.proofs.SignsLemmas.SignsLaws.{carried_as}
use Rattle.ln_top.specs.Signs.Graded.{rank_kept}
use Rattle.ln_top.proofs.signs.run.work.Goals as goal

pub returns : goal.returns
returns g c = λ given s.
    let there = c.in_ok-target.ensures.given given s in
    carried_as (c.in_ok-target.ensures.rank ∙ ap rank_kept c.requires.kept) refl
    (c.put_lines.ensures given tt (has_records there.pred there.names (c.short_text.ensures.is given s)))

pub one_target-requires-clause-kept : goal.one_target-requires-clause-kept
one_target-requires-clause-kept g c = rw c.requires.kept tt
