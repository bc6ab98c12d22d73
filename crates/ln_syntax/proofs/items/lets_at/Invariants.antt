use Rattle.std.proofs.Common.{length, ◌-◌}
use Rattle.ln_syntax.proofs.Spellings.Parts.{LetsRead}
use Rattle.ln_syntax.proofs.items.lets_at.Given as goal

abbrev pub invariant-lets : goal.invariant-lets
invariant-lets l = LetsRead l.ts l.at l.place l.lets.items

abbrev pub decreases-lets : goal.decreases-lets
decreases-lets l = length l.ts - l.place
