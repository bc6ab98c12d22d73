use Rattle.ln_algebra.proofs.Expanded.Degree.{coefficient-above}
use Rattle.ln_algebra.proofs.coefficients.coefficients_vanish_above_degree.Goals as goal

pub returns : goal.returns
returns c = coefficient-above
