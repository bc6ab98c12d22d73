use Rattle.std.proofs.Common.{arith}
use Rattle.ln_order.proofs.Listing.FrontLemmas.{places_small, sizes_small}
use Rattle.ln_order.proofs.prefix.all_prefixes.Goals as goal

pub longer-requires-clause-size : goal.longer-requires-clause-size
longer-requires-clause-size c = rw c.as_slice.ensures (sizes_small c.sites.all c.sites.sites c.sites.invariant (omega arith))

pub longer-requires-clause-below : goal.longer-requires-clause-below
longer-requires-clause-below c = rw c.as_slice.ensures (places_small c.sites.all c.sites.sites c.sites.invariant (omega arith))
