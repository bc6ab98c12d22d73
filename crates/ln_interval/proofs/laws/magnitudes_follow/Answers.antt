-- What the search leaves open in `magnitudes_follow`.
use Rattle.ln_interval.proofs.Magnitudes.{sum_magnitude, difference_magnitude, opposite_magnitude, product_magnitude, power_magnitude}
use Rattle.ln_interval.proofs.Magnitudes.{covers_magnitude, holds_magnitude}
use Rattle.ln_interval.proofs.laws.magnitudes_follow.Goals as goal

pub returns-clause-sum : goal.returns-clause-sum
returns-clause-sum c = sum_magnitude

pub returns-clause-difference : goal.returns-clause-difference
returns-clause-difference c = difference_magnitude

pub returns-clause-opposite : goal.returns-clause-opposite
returns-clause-opposite c = opposite_magnitude

pub returns-clause-product : goal.returns-clause-product
returns-clause-product c = product_magnitude

pub returns-clause-power : goal.returns-clause-power
returns-clause-power c = power_magnitude

pub returns-clause-covers : goal.returns-clause-covers
returns-clause-covers c = covers_magnitude

pub returns-clause-value : goal.returns-clause-value
returns-clause-value c = holds_magnitude
