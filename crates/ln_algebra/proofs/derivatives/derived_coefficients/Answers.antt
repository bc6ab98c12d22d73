use Rattle.ln_algebra.proofs.Vectors.Covering.{factor_at-derived}
use Rattle.ln_algebra.proofs.derivatives.derived_coefficients.Goals as goal

pub returns : goal.returns
returns c = factor_at-derived
