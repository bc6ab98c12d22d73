-- Answers to the goals of `segment_at` in src/walk.rt.
use Rattle.std.proofs.Common.{arith, sym, subst, ◌≡◌, length}
use Rattle.ln_order.specs.declared.order.Order.{Order}
use Rattle.ln_order.specs.Places.{order_places}
use Rattle.ln_order.proofs.Listing.OrdersLemmas.{sizes_are}
use Rattle.ln_cemit.proofs.Writing.Loops.{next_order, no_segment}
use Rattle.ln_cemit.proofs.walk.segment_at.Goals as goal

pub segment-requires-clause-order : goal.segment-requires-clause-order
segment-requires-clause-order c = subst (λ (o : Order). length (order_places o) ≡ c.args.p.now.shape.sites) (sym c.order-item.is)
    (sizes_are c.args.orders.now c.args.p.now.shape.sites c.requires c.orders.order-index _ (omega arith))

pub orders-preserved : goal.orders-preserved
orders-preserved c = next_order c.args.orders.now c.args.front.now c.orders.order-index c.order-item.result _
    (omega arith) c.order-item.is c.orders.invariant c.in_default.ensures

pub returns : goal.returns
returns c = sym (no_segment c.args.p.now.shape.sites c.args.orders.now c.args.p.now.segments c.args.front.now c.requires
    (λ m d l. c.orders.invariant m d (omega (arith, l))))
