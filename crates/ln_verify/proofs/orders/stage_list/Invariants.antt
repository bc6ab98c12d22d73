-- States the invariant of the loop of `stage_list`: the list holds the segments of the prefixes so far, one after the other.
use Rattle.std.proofs.Common.{◌≡◌, map, take}
use Rattle.std.specs.List.{range_with_len}
use Rattle.ln_order.specs.Places.{order_places}
use Rattle.ln_order.specs.Prefixes.{joined}
use Rattle.ln_stage.specs.Staged.{segment_of}
use Rattle.ln_verify.proofs.orders.stage_list.Given as goal

abbrev pub invariant-places : goal.invariant-places
invariant-places l = l.out.items ≡ joined (map (λ i. segment_of l.st (take i (order_places l.o))) (range_with_len 0 l.j))
