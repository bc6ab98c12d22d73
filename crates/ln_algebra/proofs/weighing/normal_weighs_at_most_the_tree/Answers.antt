use Rattle.ln_algebra.proofs.Bounding.Weights.{weighted-normal}
use Rattle.ln_algebra.proofs.weighing.normal_weighs_at_most_the_tree.Goals as goal

pub returns : goal.returns
returns c = weighted-normal
