use Rattle.ln_order.proofs.Listing.OrderExists.{order-exists}
use Rattle.ln_order.proofs.Listing.OrderUnique.{order-unique}
use Rattle.ln_order.proofs.rows.rows_have_one_order.Goals as goal

pub returns-clause-exists : goal.returns-clause-exists
returns-clause-exists c = order-exists

pub returns-clause-unique : goal.returns-clause-unique
returns-clause-unique c = order-unique
