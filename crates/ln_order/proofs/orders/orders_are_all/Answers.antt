use Rattle.ln_order.proofs.Listing.OrdersLemmas.{orders-are-all}
use Rattle.ln_order.proofs.orders.orders_are_all.Goals as goal

pub returns : goal.returns
returns c = orders-are-all
