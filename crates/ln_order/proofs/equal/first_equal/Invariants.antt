use Rattle.std.proofs.Common.{◌≡◌, take, drop}
use Rattle.ln_order.specs.Order.{equal_behind, first_equal}
use Rattle.ln_order.proofs.equal.first_equal.Given as goal

abbrev pub invariant-places : goal.invariant-places
invariant-places l = equal_behind (take l.k l.indices) l.k (drop l.k l.indices) ≡ first_equal l.indices
