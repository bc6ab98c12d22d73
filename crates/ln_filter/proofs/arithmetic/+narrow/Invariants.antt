use Rattle.std.proofs.Common.{length}
use Rattle.ln_filter.proofs.arithmetic.+narrow.Given as goal

abbrev pub decreases-narrow : goal.decreases-narrow
decreases-narrow l = length l.vars.now
