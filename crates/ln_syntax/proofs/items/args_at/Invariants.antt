use Rattle.std.proofs.Common.{length, ◌-◌}
use Rattle.ln_syntax.proofs.Spellings.Parts.{ArgsRead}
use Rattle.ln_syntax.proofs.items.args_at.Given as goal

abbrev pub invariant-arguments : goal.invariant-arguments
invariant-arguments l = ArgsRead l.ts l.at l.place l.args.items

abbrev pub decreases-arguments : goal.decreases-arguments
decreases-arguments l = length l.ts - l.place
