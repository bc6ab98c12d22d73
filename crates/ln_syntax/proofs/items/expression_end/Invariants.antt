use Rattle.std.proofs.Common.{◌-◌, length}
use Rattle.ln_syntax.proofs.Recognising.Ahead.{NoSemi}
use Rattle.ln_syntax.proofs.items.expression_end.Given as goal

abbrev pub invariant-tokens : goal.invariant-tokens
invariant-tokens l = NoSemi l.ts l.from l.to

abbrev pub decreases-tokens : goal.decreases-tokens
decreases-tokens l = length l.ts - l.to
