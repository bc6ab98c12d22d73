use Rattle.std.proofs.Common.{◌≡◌, drop}
use Rattle.ln_order.specs.Orders.{number_from}
use Rattle.ln_order.proofs.order.Order.number.Given as goal

abbrev pub invariant-places : goal.invariant-places
invariant-places l = number_from l.number (drop l.i l.places) ≡ number_from 0 l.places
