use Rattle.std.proofs.Common.{arith}
use Rattle.ln_order.proofs.Listing.OrdersLemmas.{sizes_are}
use Rattle.ln_order.proofs.orders.all_orders.Goals as goal

pub longer-requires-clause-size : goal.longer-requires-clause-size
longer-requires-clause-size c = rw c.as_slice.ensures (λ k d h. omega (arith, sizes_are c.sites.all c.sites.sites c.sites.invariant k d h))
