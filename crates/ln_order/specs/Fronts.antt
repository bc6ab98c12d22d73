-- Defines the places of a prefix of an order, as the program holds it.
use Rattle.std.specs.Prelude.{ℕ, List, take}
use Rattle.ln_order.specs.declared.front.Front.{Front}

-- the places of the sites of a prefix, the largest infinitesimals first
abbrev pub front_places : Front → List ℕ
front_places p = take p.len p.places
