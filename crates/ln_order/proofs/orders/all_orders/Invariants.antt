use Rattle.std.proofs.Common.{◌≡◌, map}
use Rattle.ln_order.specs.Orders.{orders_of}
use Rattle.ln_order.specs.Places.{order_places}
use Rattle.ln_order.proofs.orders.all_orders.Given as goal

abbrev pub invariant-sites : goal.invariant-sites
invariant-sites l = map order_places l.all ≡ orders_of l.sites
