use Rattle.std.proofs.Common.{◌∙◌}
use Rattle.ln_rows.proofs.Records.PlainLemmas.{past_line}
use Rattle.ln_rows.proofs.plain.past_ends.Goals as goal

pub ends-preserved : goal.ends-preserved
ends-preserved c = c.ends.invariant ∙ past_line _ _ c.in-Some.ensures
