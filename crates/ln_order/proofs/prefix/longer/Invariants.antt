use Rattle.std.proofs.Common.{◌≡◌, map, take}
use Rattle.std.specs.Prelude.{◌++◌, ◌∷◌, []}
use Rattle.ln_order.specs.Orders.{behind, firsts}
use Rattle.ln_order.specs.Fronts.{front_places}
use Rattle.ln_order.proofs.prefix.longer.Given as goal

abbrev pub invariant-firsts : goal.invariant-firsts
invariant-firsts l = map front_places l.all ≡ [] ∷ firsts l.first (map front_places l.others)

abbrev pub invariant-others : goal.invariant-others
invariant-others l =
    map front_places l.all ≡ [] ∷ (firsts l.first (map front_places l.others) ++ map (behind l.first) (map front_places (take l.p-index l.others)))
