use Rattle.ln_algebra.proofs.Expanded.Factors.{factors-ways}
use Rattle.ln_algebra.proofs.coefficients.products_are_sums_over_ways.Goals as goal

pub returns : goal.returns
returns c = factors-ways
