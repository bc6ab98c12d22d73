-- The loop of `put_orders` in src/write.rt.
use Rattle.std.proofs.Common.{drop, map}
use Rattle.ln_order.specs.Places.{order_places}
use Rattle.ln_cert.specs.Written.{order_lines}
use Rattle.ln_cert.proofs.Writing.Wrote.{Left}
use Rattle.ln_cert.proofs.write.put_orders.Given as goal

abbrev pub invariant-orders : goal.invariant-orders
invariant-orders l =
    Left l.fn.out.items l.out.items (order_lines l.p (map order_places (drop l.o-index l.orders))) (order_lines l.p (map order_places l.orders))
