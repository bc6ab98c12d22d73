use Rattle.std.proofs.Common.{◌≢◌, ◌<◌, ℕ, get_or, length, take}
use Rattle.ln_order.specs.declared.order.Order.{Order}
use Rattle.ln_order.specs.Places.{order_places}
use Rattle.ln_cemit.proofs.walk.segment_at.Given as goal

abbrev pub invariant-orders : goal.invariant-orders
invariant-orders l = (m : ℕ) (d : Order) → m < l.order-index → take (length l.front) (order_places (get_or l.orders m d)) ≢ l.front
