use Rattle.ln_algebra.proofs.Bounding.Bounds.{value-abs}
use Rattle.ln_algebra.proofs.weighing.values_are_within_weights.Goals as goal

pub returns : goal.returns
returns c = value-abs
