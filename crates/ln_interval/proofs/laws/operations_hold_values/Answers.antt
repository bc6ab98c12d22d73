-- What the search leaves open in `operations_hold_values`.
use Rattle.ln_interval.proofs.Pairs.{sum_holds, difference_holds, opposite_holds, product_holds, power_holds}
use Rattle.ln_interval.proofs.laws.operations_hold_values.Goals as goal

pub returns-clause-sum : goal.returns-clause-sum
returns-clause-sum c = sum_holds

pub returns-clause-difference : goal.returns-clause-difference
returns-clause-difference c = difference_holds

pub returns-clause-opposite : goal.returns-clause-opposite
returns-clause-opposite c = opposite_holds

pub returns-clause-product : goal.returns-clause-product
returns-clause-product c = product_holds

pub returns-clause-power : goal.returns-clause-power
returns-clause-power c = power_holds
