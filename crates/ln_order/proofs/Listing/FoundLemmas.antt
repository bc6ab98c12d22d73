-- The order of a row, found site by site.
use Rattle.std.proofs.Common.{◌≡◌, ◌⊎◌, inl, inr, ℕ, zero, suc, ◌+◌, ◌<◌, ◌≤◌, List, [], ◌∷◌, ◌++◌, length, set, get_or, take, ℤ, ◌<ℤ◌}
use Rattle.std.proofs.Common.{◌≤ℤ◌, refl, sym, ◌∙◌, ap, subst, arith, eqb, length-set}
use Rattle.std.specs.Prelude.{IsPermutation}
use Rattle.std.specs.List as holes
use Rattle.std.proofs.lemmas.Bool.{cases_eq, cases_lt, cases_order}
use Rattle.std.proofs.lemmas.Int.{ints}
use Rattle.std.proofs.lemmas.List.{get_or-set_other, get_or-set_same, get_or_default, length-take, take_more_same}
use Rattle.std.proofs.lemmas.List.Edits.{length-swap, swap_is}
use Rattle.std.proofs.Math.Seq.{take-append_seam}
use Rattle.std.proofs.lemmas.List.Sorted.{All-permutation, length_permutation}
use Rattle.std.proofs.lemmas.Map.Keys.{IsDistinct-IsPermutation}
use Rattle.std.proofs.lemmas.Map.Made.{AllPairs-from_IsDistinct, IsDistinct-from_AllPairs}
use Rattle.std.proofs.lemmas.Bool.Decides.{Decides-eqb, nat_tests}
use Rattle.ln_order.specs.Order.{ArePlaces, IsOrder, index_at}
use Rattle.ln_order.specs.Found.{IsLeastFrom}
use Rattle.ln_order.proofs.Signs.RowsLemmas.{order-places}
use Rattle.ln_order.proofs.Signs.SitesLemmas.{each-there}

-- ---- the least from a place on
-- the place with the least index, of those from j on and before n, is the one at m
abbrev pub LeastTo : List ℤ → List ℕ → ℕ → ℕ → ℕ → Type 0
LeastTo indices places j m n = (k : ℕ) → j ≤ k → k < n → index_at indices (get_or places m 0) ≤ℤ index_at indices (get_or places k 0)

never : (x y : ℤ) → x ≤ℤ y → y <ℤ x → ⊥
never x y h l = grind (arith, ints)

eqb_flips : (x y : ℕ) → eqb x y ≡ eqb y x
eqb_flips x y = grind (arith, nat_tests)

-- places in another order are places
pub places_permuted : (xs ys : List ℕ) → ArePlaces xs → IsPermutation xs ys → ArePlaces ys
places_permuted xs ys p m =
    let size : length ys ≡ length xs = length_permutation xs ys m in
    record {
      within = λ k d h. omega (arith, All-permutation (λ k. k < length xs) xs ys m p.within k d h, size);
      differ = AllPairs-from_IsDistinct Decides-eqb ys (IsDistinct-IsPermutation eqb eqb_flips xs ys m (IsDistinct-from_AllPairs Decides-eqb xs p.differ));
    }

-- ---- the least at its place
swap_here : (xs : List ℕ) (j m : ℕ) → j < length xs → m < length xs → get_or (holes.swap xs j m) j 0 ≡ get_or xs m 0
swap_here xs j m h l = ap (λ z. get_or z j 0) (sym (swap_is xs j m 0 h l)) ∙ go (cases_eq j m) where
  go : (j ≡ m) ⊎ (j ≡ m → ⊥) → get_or (set (set xs j (get_or xs m 0)) m (get_or xs j 0)) j 0 ≡ get_or xs m 0
  go (inl e) = rw e (get_or-set_same (set xs m (get_or xs m 0)) m (get_or xs m 0) 0 (rw length-set l))
  go (inr ne) = get_or-set_other (set xs j (get_or xs m 0)) m j (get_or xs j 0) 0 ne ∙ get_or-set_same xs j (get_or xs m 0) 0 h

swap_before : (xs : List ℕ) (j m k : ℕ) → j < length xs → m < length xs → k < j → j ≤ m → get_or (holes.swap xs j m) k 0 ≡ get_or xs k 0
swap_before xs j m k h l b f =
    ap (λ z. get_or z k 0) (sym (swap_is xs j m 0 h l))
    ∙ get_or-set_other (set xs j (get_or xs m 0)) m k (get_or xs j 0) 0 (λ e. omega (arith, b, f, e))
    ∙ get_or-set_other xs j k (get_or xs m 0) 0 (λ e. omega (arith, b, e))

front_same : (xs ys : List ℕ) (j : ℕ) → length xs ≡ length ys → ((k : ℕ) → k < j → get_or xs k 0 ≡ get_or ys k 0) → take j xs ≡ take j ys
front_same xs ys zero e h = refl
front_same [] [] (suc j) e h = refl
front_same [] (y ∷ ys) (suc j) e h = absurd (omega (arith, e))
front_same (x ∷ xs) [] (suc j) e h = absurd (omega (arith, e))
front_same (x ∷ xs) (y ∷ ys) (suc j) e h =
    let r : take j xs ≡ take j ys = front_same xs ys j (omega (arith, e)) (λ k l. h (suc k) (omega (arith, l))) in
    ap (λ z. z ∷ take j xs) (h 0 (omega arith)) ∙ ap (λ z. y ∷ z) r

front_at : (xs ys : List ℕ) (j k : ℕ) → take j xs ≡ take j ys → k < j → get_or xs k 0 ≡ get_or ys k 0
front_at xs ys zero k e h = absurd (omega arith)
front_at [] [] (suc j) k e h = refl
front_at [] (y ∷ ys) (suc j) k e h = cc
front_at (x ∷ xs) [] (suc j) k e h = cc
front_at (x ∷ xs) (y ∷ ys) (suc j) zero e h = cc
front_at (x ∷ xs) (y ∷ ys) (suc j) (suc k) e h = let t : take j xs ≡ take j ys = cc in front_at xs ys j k t (omega (arith, h))

once : (xs : List ℕ) (a b : ℕ) → ArePlaces xs → a < length xs → b < length xs → get_or xs a 0 ≡ get_or xs b 0 → a ≡ b
once xs a b p h l e = go (cases_order a b) where
  go : (a ≡ b) ⊎ ((a < b) ⊎ (b < a)) → a ≡ b
  go (inl q) = q
  go (inr (inl m)) = absurd (p.differ a b 0 m l e)
  go (inr (inr m)) = absurd (p.differ b a 0 m h (sym e))

module _ (indices : List ℤ) (xs o : List ℕ) (j m : ℕ) (p : ArePlaces xs) (size : length xs ≡ length indices)
    (least : IsLeastFrom indices xs j m) (order : IsOrder indices o) (front : take j xs ≡ take j o) where
  placed : ArePlaces o
  placed = (order-places indices o order).each

  j_within : j < length o
  j_within = omega (arith, least.from, least.within, size, order.size)

  abbrev the_next : ℕ
  the_next = get_or o j 0

  -- the next site of the order comes after the first j, and so it isn't below the least
  next_over : index_at indices (get_or xs m 0) ≤ℤ index_at indices the_next
  next_over =
      let y : ℕ = the_next in
      let c = each-there (length xs) xs y (record { size = refl; each = p }) (omega (arith, order.each j 0 j_within, size)) in
      let e : get_or xs c.0 0 ≡ y = get_or_default xs c.0 0 y c.1 ∙ c.2 in
      behind c.0 c.1 e (cases_lt c.0 j) where
        behind : (k : ℕ) → k < length xs → get_or xs k 0 ≡ the_next → (k < j) ⊎ (j ≤ k) → index_at indices (get_or xs m 0) ≤ℤ index_at indices the_next
        behind k l e (inl b) = absurd (omega (arith, b, once o k j placed (omega (arith, b, j_within)) j_within (sym (front_at xs o j k front b) ∙ e)))
        behind k l e (inr b) = subst (λ z. index_at indices (get_or xs m 0) ≤ℤ index_at indices z) e (least.least k b l)

  -- the least is in the order, and neither before place j nor after it
  least_is_next : get_or xs m 0 ≡ the_next
  least_is_next =
      let x : ℕ = get_or xs m 0 in
      let c = each-there (length o) o x (record { size = refl; each = placed }) (omega (arith, p.within m 0 least.within, size, order.size)) in
      let e : get_or o c.0 0 ≡ x = get_or_default o c.0 0 x c.1 ∙ c.2 in
      at c.0 c.1 e (cases_order c.0 j) where
        at : (k : ℕ) → k < length o → get_or o k 0 ≡ get_or xs m 0 → (k ≡ j) ⊎ ((k < j) ⊎ (j < k)) → get_or xs m 0 ≡ the_next
        at k l e (inl q) = sym e ∙ ap (λ z. get_or o z 0) q
        at k l e (inr (inl b)) =
            absurd (omega (arith, b, least.from, once xs k m p (omega (arith, l, size, order.size)) least.within (front_at xs o j k front b ∙ e)))
        at k l e (inr (inr b)) = absurd (never (index_at indices (get_or xs m 0)) (index_at indices the_next) next_over
            (subst (λ z. index_at indices the_next <ℤ index_at indices z) e (order.rising j k 0 b l)))

  one_more_swapped : take (j + 1) (holes.swap xs j m) ≡ take (j + 1) o
  one_more_swapped =
      let within_xs : j < length xs = omega (arith, least.from, least.within) in
      let there : j < length (holes.swap xs j m) = omega (arith, length-swap xs j m, within_xs) in
      let same : take j (holes.swap xs j m) ≡ take j xs =
      front_same (holes.swap xs j m) xs j (length-swap xs j m) (λ k b. swap_before xs j m k within_xs least.within b least.from) in
      take_more_same (holes.swap xs j m) o j 0 there j_within (same ∙ front) (swap_here xs j m within_xs least.within ∙ least_is_next)

-- with the least of the places from j on swapped into place j, one place more is as in the order
pub one_more : (indices : List ℤ) (xs ys : List ℕ) (j m : ℕ) → IsLeastFrom indices xs j m → ys ≡ holes.swap xs j m → (o : List ℕ)
    → ArePlaces xs → length xs ≡ length indices → IsOrder indices o → take j xs ≡ take j o → take (j + 1) ys ≡ take (j + 1) o
one_more indices xs ys j m least e o p size order front = ap (take (j + 1)) e ∙ one_more_swapped indices xs o j m p size least order front

-- ---- in the array
-- the first n numbers of a list of length n with others after it are that list
pub front_of : (n : ℕ) (ys rest : List ℕ) → length ys ≡ n → take n (ys ++ rest) ≡ ys
front_of n ys rest h = rw (← h) (take-append_seam ys rest)

-- the first places of the array, after those were permuted, are the permuted ones
pub permuted_front : (n m : ℕ) (array ys rest : List ℕ) → length array ≡ 5 → n ≤ 5 → m ≡ n → IsPermutation (take m array) ys → take n (ys ++ rest) ≡ ys
permuted_front n m array ys rest five few e p =
    let l : length ys ≡ length (take m array) = length_permutation (take m array) ys p in
    front_of n ys rest (omega (arith, l, length-take m array, five, few, e))

-- and they are places where they were before
pub permuted_places : (n m : ℕ) (array ys rest : List ℕ) → length array ≡ 5 → n ≤ 5 → m ≡ n → ArePlaces (take n array)
    → IsPermutation (take m array) ys → ArePlaces (take n (ys ++ rest))
permuted_places n m array ys rest five few e places p =
    rw (permuted_front n m array ys rest five few e p) (places_permuted (take m array) ys (rw e places) p)
