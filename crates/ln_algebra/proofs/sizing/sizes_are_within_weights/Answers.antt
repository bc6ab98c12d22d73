use Rattle.ln_algebra.proofs.Bounding.Sizes.{size_weight}
use Rattle.ln_algebra.proofs.sizing.sizes_are_within_weights.Goals as goal

pub returns : goal.returns
returns c = size_weight
