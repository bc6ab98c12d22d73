-- The place of an order among all, and what holds of the list of each.
use Rattle.std.proofs.Common.{◌≡◌, ℕ, ◌<◌, List, [], length, map, get_or, ◌∙◌, ap, arith, subst, sym}
use Rattle.std.specs.Prelude.{All}
use Rattle.std.proofs.lemmas.List.{get_or-map, get_or_default, length-map}
use Rattle.ln_order.specs.Orders.{IsOrderOf, orders_of}
use Rattle.ln_order.proofs.Listing.OrdersLemmas.{is-member}

-- the place of an order among all
pub record Place (k : ℕ) (o : List ℕ) : Type 0 where
  pub number : ℕ
  pub within : number < length (orders_of k)
  pub here : get_or (orders_of k) number [] ≡ o

-- an order of k sites has a place among all their orders
pub place-of : (k : ℕ) (o : List ℕ) → IsOrderOf k o → Place k o
place-of k o h =
    let m = is-member k o h in
    record { number = m.0; within = m.1; here = sym (get_or_default (orders_of k) m.0 o [] m.1) ∙ m.2 }

-- what holds of each of the lists of all orders holds of that of an order
pub of-each : (k : ℕ) (L : List ℕ → List ℕ) (ls : List (List ℕ)) (P : List ℕ → Type 0) (o : List ℕ) → ls ≡ map L (orders_of k) → All P ls
    → IsOrderOf k o → P (L o)
of-each k L ls P o e a h =
    let p = place-of k o h in
    let at : get_or ls p.number [] ≡ L o = ap (λ z. get_or z p.number []) e ∙ get_or-map L (orders_of k) p.number [] [] p.within ∙ ap L p.here in
    subst P at (a p.number [] (omega (arith, p.within, ap length e, length-map (orders_of k) L)))
