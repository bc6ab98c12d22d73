use Rattle.std.proofs.Common.{length}
use Rattle.ln_nest.proofs.work.+least.Given as goal

abbrev pub decreases-least : goal.decreases-least
decreases-least l = length l.terms.now
