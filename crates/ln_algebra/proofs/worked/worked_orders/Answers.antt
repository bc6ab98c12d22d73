use Rattle.ln_algebra.proofs.Examples.WorkedValues.{indices_decide, last_coordinate_is_largest, smallest_infinitesimal_decides}
use Rattle.ln_algebra.proofs.worked.worked_orders.Goals as goal

pub returns-clause-last_coordinate : goal.returns-clause-last_coordinate
returns-clause-last_coordinate c = last_coordinate_is_largest

pub returns-clause-indices : goal.returns-clause-indices
returns-clause-indices c = indices_decide

pub returns-clause-smallest : goal.returns-clause-smallest
returns-clause-smallest c = smallest_infinitesimal_decides
