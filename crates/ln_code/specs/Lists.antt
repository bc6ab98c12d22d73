-- The list of an order: the segments of its prefixes, one after the other.
use Rattle.std.specs.Prelude.{◌≡◌, ℕ, List, map}
use Rattle.ln_order.specs.Orders.{IsOrderOf, orders_of}
use Rattle.ln_order.specs.Prefixes.{beside, prefixes_of, segments_from}
use Rattle.ln_code.specs.Part.{Part}

-- the segment of a prefix: prefixes are listed by their numbers, sorted as lists
abbrev pub segment_of : Part → List ℕ → List ℕ
segment_of part p = beside (prefixes_of part.shape.sites) part.segments p

-- the segments of the prefixes of an order from the j-th on, one after the other
abbrev pub list_from : Part → List ℕ → ℕ → List ℕ
list_from part places j = segments_from (segment_of part) places j

-- the list of an order
abbrev pub list_of : Part → List ℕ → List ℕ
list_of part places = list_from part places 0

-- the lists of all orders of the sites, in the order of the orders
abbrev pub lists_of : Part → List (List ℕ)
lists_of part = map (list_of part) (orders_of part.shape.sites)

-- the order of the sites with these places has this list
pub record IsListOf (part : Part) (places list : List ℕ) : Type 0 where
  pub order : IsOrderOf part.shape.sites places
  pub list_is : list ≡ list_of part places
