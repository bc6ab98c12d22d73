-- All prefixes, written one after the other.
use Rattle.std.proofs.Common.{◌≡◌, ℕ, zero, suc, ◌<◌, ◌≤◌, List, [], ◌∷◌, length, map, get_or, take, refl, sym, ◌∙◌, ap, subst, arith}
use Rattle.std.specs.Prelude.{All}
use Rattle.std.proofs.lemmas.List.{get_or-map, length-map, length-take}
use Rattle.std.proofs.lemmas.List.Elements.{Contains-get_or}
use Rattle.ln_order.specs.declared.front.Front.{Front}
use Rattle.ln_order.specs.Fronts.{front_places}
use Rattle.ln_order.specs.Prefixes.{IsPrefixOf, prefixes_of}
use Rattle.ln_order.proofs.Listing.PrefixLemmas.{prefix-is}

at-front : (j : ℕ) (o : List ℕ) (i d : ℕ) → i < length (take j o) → (i < length o) × (get_or (take j o) i d ≡ get_or o i d)
at-front zero o i d h = absurd (omega arith)
at-front (suc j) [] i d h = absurd (omega arith)
at-front (suc j) (x ∷ o) zero d h = (omega arith, refl)
at-front (suc j) (x ∷ o) (suc i) d h = let r = at-front j o i d (omega (arith, h)) in (omega (arith, r.0), r.1)

-- a prefix of an order of k sites has at most k places
pub prefix-size : (k : ℕ) (p : List ℕ) → IsPrefixOf k p → length p ≤ k
prefix-size k p r = omega (arith, ap length r.front, length-take r.places r.order, r.full.size)

prefix-below : (k : ℕ) (p : List ℕ) → IsPrefixOf k p → All (λ x. x < k) p
prefix-below k p r = subst (λ z. All (λ x. x < k) z) (sym r.front)
    (λ i d h. (let a = at-front r.places r.order i d h in let b = r.full.each.within i d a.0 in omega (arith, a.1, b, r.full.size)))

module _ (all : List Front) (k : ℕ) (e : map front_places all ≡ prefixes_of k) where
  -- each member of the list is a prefix of an order of k sites
  pub front-is-prefix : (i : ℕ) (d : Front) → i < length all → IsPrefixOf k (front_places (get_or all i d))
  front-is-prefix i d h =
      let at : get_or (map front_places all) i [] ≡ front_places (get_or all i d) = get_or-map front_places all i d [] h in
      let l : i < length (prefixes_of k) = omega (arith, h, length-map all front_places, ap length e) in
      let q : get_or (prefixes_of k) i [] ≡ front_places (get_or all i d) = ap (λ z. get_or z i []) (sym e) ∙ at in
      subst (IsPrefixOf k) q (prefix-is k (get_or (prefixes_of k) i []) (Contains-get_or (prefixes_of k) i [] l))

  -- each prefix of the orders of fewer than 5 sites has fewer than 5 places
  pub sizes_small : k < 5 → All (λ p. length (front_places p) < 5) all
  sizes_small few i d h = omega (arith, prefix-size k (front_places (get_or all i d)) (front-is-prefix i d h), few)

  -- each place in a prefix of the orders of fewer than 5 sites is below 5
  pub places_small : k < 5 → All (λ p. All (λ x. x < 5) (front_places p)) all
  places_small few i d h m x l = omega (arith, prefix-below k (front_places (get_or all i d)) (front-is-prefix i d h) m x l, few)
