use Rattle.ln_order.proofs.Exchanging.Sorting.{rising-in-order}
use Rattle.ln_order.proofs.Exchanging.Sorting.{rows-sort}
use Rattle.ln_order.proofs.exchanges.rows_sort.Goals as goal

pub returns-clause-sorted : goal.returns-clause-sorted
returns-clause-sorted c = rows-sort

pub returns-clause-order : goal.returns-clause-order
returns-clause-order c = rising-in-order
