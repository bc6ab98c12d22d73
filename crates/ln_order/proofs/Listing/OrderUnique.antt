-- Proves that the indices of a row have at most one order.
use Rattle.std.proofs.Common.{◌≡◌, ◌⊎◌, inl, inr, ℕ, suc, ◌<◌, List, [], ◌∷◌, length, get_or, refl, sym, ◌∙◌, ap, arith, subst, ℤ, ◌<ℤ◌}
use Rattle.std.specs.Prelude.{AllPairs}
use Rattle.std.proofs.lemmas.Int.{ints}
use Rattle.ln_algebra.specs.Walk.{Member}
use Rattle.ln_order.specs.Order.{IsOrder, index_at}
use Rattle.ln_order.specs.Rows.{OrderIsUnique}
use Rattle.ln_order.proofs.Signs.RankingLemmas.{at-member, member-at}
use Rattle.ln_order.proofs.Signs.RowsLemmas.{order-places}
use Rattle.ln_order.proofs.Signs.SitesLemmas.{each-there}

module _ (indices : List ℤ) where
  -- the index of a is smaller than that of b
  abbrev Below : ℕ → ℕ → Type 0
  Below a b = index_at indices a <ℤ index_at indices b

  -- each place has a smaller index than all after it
  abbrev Rising : List ℕ → Type 0
  Rising [] = Unit {0}
  Rising (p ∷ ps) = ((q : ℕ) → Member ps q → Below p q) × Rising ps

  -- no place is below itself
  never : (a : ℕ) → Below a a → ⊥
  never a l = omega (arith, ints, l)

  -- nor are two below each other
  both : (a b : ℕ) → Below a b → Below b a → ⊥
  both a b l r = omega (arith, ints, l, r)

  -- the places of an order rise
  rising-from : (ps : List ℕ) → AllPairs (λ j k. Below j k) ps → Rising ps
  rising-from [] h = tt
  rising-from (p ∷ ps) h = ((λ q m. at q (member-at ps q m)), rising-from ps (λ i j d l k. h (suc i) (suc j) d (omega (arith, l)) (omega (arith, k)))) where
    at : (q : ℕ) → (k : ℕ) × (k < length ps) × (get_or ps k 0 ≡ q) → Below p q
    at q (k, l, e) = subst (λ (z : ℕ). Below p z) e (h 0 (suc k) 0 (omega arith) (omega (arith, l)))

  -- two lists of places that rise and have the same members are one
  rising-same : (xs ys : List ℕ) → Rising xs → Rising ys → ((a : ℕ) → Member xs a → Member ys a) → ((a : ℕ) → Member ys a → Member xs a) → xs ≡ ys
  rising-same [] [] s t h k = refl
  rising-same [] (y ∷ ys) s t h k = absurd (k y (inl refl))
  rising-same (x ∷ xs) [] s t h k = absurd (h x (inl refl))
  rising-same (x ∷ xs) (y ∷ ys) s t h k =
      let r : xs ≡ ys = rising-same xs ys s.1 t.1 (λ a i. down a i (h a (inr i))) (λ a i. up a i (k a (inr i))) in
      ap (λ z. z ∷ xs) heads ∙ ap (λ z. y ∷ z) r where
        join : (x ≡ y) ⊎ Member ys x → (y ≡ x) ⊎ Member xs y → x ≡ y
        join (inl q) j = q
        join (inr i) (inl q) = sym q
        join (inr i) (inr j) = absurd (both x y (s.0 y j) (t.0 x i))

        heads : x ≡ y
        heads = join (h x (inl refl)) (k y (inl refl))

        down : (a : ℕ) → Member xs a → (a ≡ y) ⊎ Member ys a → Member ys a
        down a i (inl q) = absurd (never x (subst (λ (z : ℕ). Below x z) (q ∙ sym heads) (s.0 a i)))
        down a i (inr j) = j

        up : (a : ℕ) → Member ys a → (a ≡ x) ⊎ Member xs a → Member xs a
        up a i (inl q) = absurd (never y (subst (λ (z : ℕ). Below y z) (q ∙ heads) (t.0 a i)))
        up a i (inr j) = j

  -- what is in one order is in each
  stands : (xs ys : List ℕ) → IsOrder indices xs → IsOrder indices ys → (a : ℕ) → Member xs a → Member ys a
  stands xs ys x y a m =
      let at = member-at xs a m in
      let l : a < length indices = subst (λ (z : ℕ). z < length indices) at.2 (x.each at.0 0 at.1) in
      at-member ys a (each-there (length indices) ys a (order-places indices ys y) l)

-- indices have one order at most
pub order-unique : OrderIsUnique
order-unique indices xs ys x y =
    rising-same indices xs ys (rising-from indices xs x.rising) (rising-from indices ys y.rising) (stands indices xs ys x y) (stands indices ys xs y x)
