use Rattle.ln_algebra.proofs.Bounding.Bounds.{weighted-derived}
use Rattle.ln_algebra.proofs.Bounding.Whole.{weighted-covered}
use Rattle.ln_algebra.proofs.weighing.derivatives_weigh_the_whole.Goals as goal

pub returns-clause-sum : goal.returns-clause-sum
returns-clause-sum c = weighted-covered

pub returns-clause-each : goal.returns-clause-each
returns-clause-each c = weighted-derived
