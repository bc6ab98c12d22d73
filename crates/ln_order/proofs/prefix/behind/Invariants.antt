use Rattle.std.proofs.Common.{◌≡◌, ◌+◌, map, length, take}
use Rattle.std.specs.Prelude.{◌∷◌}
use Rattle.ln_order.specs.Orders.{past}
use Rattle.ln_order.proofs.prefix.behind.Given as goal

abbrev pub invariant-places : goal.invariant-places
invariant-places l = record { so_far : take (l.i + 1) l.places ≡ l.first ∷ map (past l.first) (take l.i l.others); size : length l.places ≡ 5 }
