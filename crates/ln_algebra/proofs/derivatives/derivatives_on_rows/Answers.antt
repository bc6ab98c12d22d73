use Rattle.ln_algebra.proofs.Walking.Cut.{of_sites, within}
use Rattle.ln_algebra.proofs.Deriving.Derived.{derivative-coefficient}
use Rattle.ln_algebra.proofs.derivatives.derivatives_on_rows.Goals as goal

pub returns : goal.returns
returns c = λ n sites e f x a below h o. derivative-coefficient n e f (of_sites sites) x a below h o.size (within n sites x e below a o)
