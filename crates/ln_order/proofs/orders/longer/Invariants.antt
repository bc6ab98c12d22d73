use Rattle.std.proofs.Common.{◌≡◌, map, take}
use Rattle.std.specs.Prelude.{◌++◌}
use Rattle.ln_order.specs.Orders.{behind, firsts}
use Rattle.ln_order.specs.Places.{order_places}
use Rattle.ln_order.proofs.orders.longer.Given as goal

abbrev pub invariant-firsts : goal.invariant-firsts
invariant-firsts l = map order_places l.all ≡ firsts l.first (map order_places l.others)

abbrev pub invariant-others : goal.invariant-others
invariant-others l = map order_places l.all ≡ firsts l.first (map order_places l.others) ++ map (behind l.first) (map order_places (take l.o-index l.others))
