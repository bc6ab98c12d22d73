use Rattle.std.proofs.Common.{length, ◌-◌}
use Rattle.ln_lex.proofs.Gaps.{Skipped}
use Rattle.ln_lex.proofs.scan.gap.Given as goal

abbrev pub invariant-gaps : goal.invariant-gaps
invariant-gaps l = Skipped l.bytes l.at

abbrev pub decreases-gaps : goal.decreases-gaps
decreases-gaps l = length l.bytes - l.at
