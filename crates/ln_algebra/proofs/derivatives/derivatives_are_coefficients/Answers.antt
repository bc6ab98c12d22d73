use Rattle.ln_algebra.proofs.Deriving.Derived.{derivative-coefficient}
use Rattle.ln_algebra.proofs.derivatives.derivatives_are_coefficients.Goals as goal

pub returns : goal.returns
returns c = derivative-coefficient
