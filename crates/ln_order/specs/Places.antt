-- Defines the places of an order, as the program holds it.
use Rattle.std.specs.Prelude.{ℕ, List, take}
use Rattle.ln_order.specs.declared.order.Order.{Order}

-- the places of the sites of an order, the largest infinitesimals first
abbrev pub order_places : Order → List ℕ
order_places o = take o.len o.places
