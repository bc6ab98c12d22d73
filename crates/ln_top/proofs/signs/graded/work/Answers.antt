use Rattle.std.proofs.Common.{◌∙◌}
use Rattle.ln_top.proofs.FrameLemmas.Carry.{carried_by}
use Rattle.ln_top.proofs.SignsLemmas.GradedLaws.{kept_first, program_given}
use Rattle.ln_top.proofs.SignsLemmas.RunLaws.{has_records}
use Rattle.ln_top.proofs.SignsLemmas.SignsLaws.{carried_as}
use Rattle.ln_top.proofs.signs.graded.work.Goals as goal

pub returns : goal.returns
returns g c = λ given s.
    let there = c.in_ok-target.ensures.given given s in
    let rank = c.in_ok-target.ensures.rank ∙ (kept_first _ _ _ c.requires.fit.least c.requires.kept).1 in
    carried_by (program_given there rank c.in_ok-target.ensures.belongs)
    (carried_as rank c.no_watchers.ensures
    (c.put_lines.ensures given tt (has_records there.pred there.names (c.short_text.ensures.is given s))))

pub one_target-requires-clause-kept : goal.one_target-requires-clause-kept
one_target-requires-clause-kept g c = (kept_first _ _ _ c.requires.fit.least c.requires.kept).0
