-- A row's own indices give the same order of exponents as the order of its sites.
use Rattle.std.proofs.Common.{◌≡◌, ◌⊎◌, inl, inr, ℕ, ◌<◌, List, length, get_or, sym, ◌∙◌, ap, arith, ℤ, pos, ◌<ℤ◌, ◌≤ℤ◌, unsigned_abs}
use Rattle.std.specs.Prelude.{All, Contains}
use Rattle.std.proofs.lemmas.Bool.{cases_order}
use Rattle.std.proofs.lemmas.Int.{ints}
use Rattle.ln_algebra.specs.Earlier.{Of, RanksBefore}
use Rattle.ln_order.specs.Order.{IsOrder, index_at}
use Rattle.ln_order.specs.Orders.{IsOrderOf}
use Rattle.ln_order.specs.Sites.{OrdersAreThoseOfRows, place_in, row_sites, sites_of}
use Rattle.ln_order.proofs.Signs.SitesLemmas.{each-there, kept, place-is}

irreflexive : (z : ℤ) → z <ℤ z → ⊥
irreflexive z h = omega (arith, ints, h)

abs-less : (y z : ℤ) → pos 0 ≤ℤ y → pos 0 ≤ℤ z → y <ℤ z → unsigned_abs y < unsigned_abs z
abs-less y z a b h = omega (arith, ints, a, b, h)

abs-not : (y z : ℤ) → pos 0 ≤ℤ y → pos 0 ≤ℤ z → y <ℤ z → unsigned_abs z < unsigned_abs y → ⊥
abs-not y z a b h k = omega (arith, ints, a, b, h, k)

-- the order of a row's indices is one of places
pub order-places : (indices : List ℤ) (order : List ℕ) → IsOrder indices order → IsOrderOf (length indices) order
order-places indices order p = record {
  size = p.size;
  each = record {
    within = λ k d h. omega (arith, p.each k d h, p.size);
    differ = λ i j d l h e. irreflexive (index_at indices (get_or order j d))
        (let r : index_at indices (get_or order i d) <ℤ index_at indices (get_or order j d) = p.rising i j d l h in rw e at r);
  };
}

module _ (indices : List ℤ) (order : List ℕ) (p : IsOrder indices order) (whole : All (λ z. pos 0 ≤ℤ z) indices) where
  there : (s : ℕ) → s < length indices → Contains order s
  there s h = each-there (length indices) order s (order-places indices order p) h

  from_0 : (s : ℕ) → s < length indices → pos 0 ≤ℤ index_at indices s
  from_0 s h = whole s (pos 0) h

  -- the places of two sites, where one has the smaller place
  rising : (s t : ℕ) → s < length indices → t < length indices → place_in order s < place_in order t → index_at indices s <ℤ index_at indices t
  rising s t hs ht l =
      let a = place-is order s (there s hs) in
      let b = place-is order t (there t ht) in
      let r : index_at indices (get_or order (place_in order s) 0) <ℤ index_at indices (get_or order (place_in order t) 0) =
      p.rising (place_in order s) (place_in order t) 0 l b.0 in
      rw (a.1 0, b.1 0) at r

  index-place : (s t : ℕ) → s < length indices → t < length indices → unsigned_abs (index_at indices s) < unsigned_abs (index_at indices t)
      → place_in order s < place_in order t
  index-place s t hs ht l = go (cases_order (place_in order s) (place_in order t)) where
    go : (place_in order s ≡ place_in order t) ⊎ ((place_in order s < place_in order t) ⊎ (place_in order t < place_in order s))
        → place_in order s < place_in order t
    go (inl e) =
        let q : s ≡ t = sym ((place-is order s (there s hs)).1 0) ∙ ap (λ z. get_or order z 0) e ∙ (place-is order t (there t ht)).1 0 in
        absurd (omega (arith, l, ap (λ z. unsigned_abs (index_at indices z)) q))
    go (inr (inl k)) = k
    go (inr (inr k)) = absurd (abs-not (index_at indices t) (index_at indices s) (from_0 t ht) (from_0 s hs) (rising t s ht hs k) l)

  place-index : (s t : ℕ) → s < length indices → t < length indices → place_in order s < place_in order t
      → unsigned_abs (index_at indices s) < unsigned_abs (index_at indices t)
  place-index s t hs ht l = abs-less (index_at indices s) (index_at indices t) (from_0 s hs) (from_0 t ht) (rising s t hs ht l)

-- a row's own indices, from 0 on, give the same order of exponents as the order of its sites
pub orders-rows : OrdersAreThoseOfRows
orders-rows sites vars indices order a b h size whole p =
    ((λ e. (e.0, e.1, e.2, e.3, λ w r. e.4 w (to_row w r))), λ e. (e.0, e.1, e.2, e.3, λ w r. e.4 w (to_place w r)))
  where
    below : (v s : ℕ) → Of (sites_of vars order) v s → s < length indices
    below v s o = omega (arith, (kept sites vars h).below v s o, size)

    to_row : {v : ℕ} (w : ℕ) → RanksBefore (sites_of vars order) v w → RanksBefore (row_sites vars indices) v w
    to_row {v = v} w (s, t, o, q, inl l) = (s, t, o, q, inl (place-index indices order p whole s t (below v s o) (below w t q) l))
    to_row {v = v} w (s, t, o, q, inr l) = (s, t, o, q, inr l)

    to_place : {v : ℕ} (w : ℕ) → RanksBefore (row_sites vars indices) v w → RanksBefore (sites_of vars order) v w
    to_place {v = v} w (s, t, o, q, inl l) = (s, t, o, q, inl (index-place indices order p whole s t (below v s o) (below w t q) l))
    to_place {v = v} w (s, t, o, q, inr l) = (s, t, o, q, inr l)
