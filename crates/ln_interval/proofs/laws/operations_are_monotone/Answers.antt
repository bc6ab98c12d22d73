-- Operations on covered ranges are covered.
use Rattle.ln_interval.proofs.Monotone.{difference_covers, lower_power, opposite_covers, power_covers, product_covers, sum_covers}
use Rattle.ln_interval.proofs.laws.operations_are_monotone.Goals as goal

pub returns-clause-sum : goal.returns-clause-sum
returns-clause-sum c = sum_covers

pub returns-clause-difference : goal.returns-clause-difference
returns-clause-difference c = difference_covers

pub returns-clause-opposite : goal.returns-clause-opposite
returns-clause-opposite c = opposite_covers

pub returns-clause-product : goal.returns-clause-product
returns-clause-product c = product_covers

pub returns-clause-power : goal.returns-clause-power
returns-clause-power c = power_covers

pub returns-clause-lower : goal.returns-clause-lower
returns-clause-lower c = lower_power
