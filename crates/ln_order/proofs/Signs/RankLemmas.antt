-- The places of sites, sorted by index.
use Rattle.std.proofs.Common.{◌≡◌, ◌≢◌, ◌⊎◌, inl, inr, ℕ, zero, suc, ◌<◌, ◌≤◌, false, List, [], ◌∷◌, ◌++◌, length, get_or, take, ℤ, pos}
use Rattle.std.proofs.Common.{◌<ℤ◌, refl, sym, ◌∙◌, arith, get_or-take, eqb}
use Rattle.std.specs.Prelude.{All, AllPairs, IsPermutation, IsSortedByKey}
use Rattle.std.specs.Ordering.{int_cmp, is_lt}
use Rattle.std.proofs.Math.Seq.{take-append_seam}
use Rattle.std.proofs.lemmas.Bool.{cases_order}
use Rattle.std.proofs.lemmas.Bool.Decides.{Decides-eqb, nat_tests}
use Rattle.std.proofs.lemmas.Cmp.{int_cmp_total}
use Rattle.std.proofs.lemmas.Int.{ints}
use Rattle.std.proofs.lemmas.List.{length-take}
use Rattle.std.proofs.lemmas.List.Sorted.{All-permutation, length_permutation, sorted_far, ranks_by}
use Rattle.std.proofs.lemmas.Map.Keys.{IsDistinct-IsPermutation}
use Rattle.std.proofs.lemmas.Map.Made.{AllPairs-from_IsDistinct, IsDistinct-from_AllPairs}
use Rattle.ln_order.specs.Order.{index_at, ArePlaces, IsOrder}

-- five places in order of the arguments
abbrev pub five : List ℕ
five = 0 ∷ 1 ∷ 2 ∷ 3 ∷ 4 ∷ []

five_at : (k d : ℕ) → k < 5 → get_or five k d ≡ k
five_at zero d h = refl
five_at (suc zero) d h = refl
five_at (suc (suc zero)) d h = refl
five_at (suc (suc (suc zero))) d h = refl
five_at (suc (suc (suc (suc zero)))) d h = refl
five_at (suc (suc (suc (suc (suc k))))) d h = absurd (omega arith)

first_at : (n k d : ℕ) → n ≤ 5 → k < n → get_or (take n five) k d ≡ k
first_at n k d few h = rw get_or-take (five_at k d (omega arith))

first_length : (n : ℕ) → n ≤ 5 → length (take n five) ≡ n
first_length n few = omega (arith, length-take n five)

eqb_flips : (x y : ℕ) → eqb x y ≡ eqb y x
eqb_flips x y = grind (arith, nat_tests)

-- the places of n sites, in any order
pub are_places : (n : ℕ) (places : List ℕ) → n ≤ 5 → IsPermutation (take n five) places → (length places ≡ n) × ArePlaces places
are_places n places few p =
    let size : length places ≡ n = length_permutation (take n five) places p ∙ first_length n few in
    let within : All (λ k. k < n) places =
    All-permutation (λ k. k < n) (take n five) places p (λ k d h. let l : k < n = omega (arith, h, first_length n few) in rw (first_at n k d few l) l) in
    let differ : AllPairs (λ j k. j ≢ k) (take n five) =
    λ i j d l h e. let m : j < n = omega (arith, h, first_length n few) in
    omega (arith, l, sym (first_at n i d few (omega (arith, l, m))) ∙ e ∙ first_at n j d few m) in (
      size,
      record {
        within = λ k d h. omega (arith, within k d h, size);
        differ = AllPairs-from_IsDistinct Decides-eqb places
            (IsDistinct-IsPermutation eqb eqb_flips (take n five) places p (IsDistinct-from_AllPairs Decides-eqb (take n five) differ));
      },
    )

-- of two indices that differ, the one that isn't larger is the smaller
below : (x y : ℤ) → is_lt (int_cmp y x) ≡ false → x ≢ y → x <ℤ y
below x y h ne = grind (arith, ints)

-- indices at two places differ
apart : (indices : List ℤ) (j k : ℕ) → AllPairs (λ y z. y ≢ z) indices → j < length indices → k < length indices → j ≢ k
    → index_at indices j ≢ index_at indices k
apart indices j k differ a b ne e = go (cases_order j k) where
  go : (j ≡ k) ⊎ ((j < k) ⊎ (k < j)) → ⊥
  go (inl same) = ne same
  go (inr (inl l)) = differ j k (pos 0) l b e
  go (inr (inr l)) = differ k j (pos 0) l a (sym e)

-- places that are sorted by index are the order
pub sorted_is_order : (indices : List ℤ) (places : List ℕ) → length indices ≤ 5 → IsPermutation (take (length indices) five) places
    → IsSortedByKey (index_at indices) int_cmp places → AllPairs (λ y z. y ≢ z) indices → IsOrder indices places
sorted_is_order indices places few p sorted differ =
    let q = are_places (length indices) places few p in
    record {
      size = q.0;
      each = rw (← q.0) q.1.within;
      rising = λ i j d l h.
          below (index_at indices (get_or places i d)) (index_at indices (get_or places j d))
          (sorted_far (λ x y. is_lt (int_cmp (index_at indices x) (index_at indices y)))
          (ranks_by int_cmp_total (index_at indices)) places sorted i j d (omega (arith, l)) h)
          (apart indices (get_or places i d) (get_or places j d) differ (omega (arith, q.1.within i d (omega (arith, l, h)), q.0))
          (omega (arith, q.1.within j d h, q.0)) (q.1.differ i j d l h));
    }

-- the prefix of an array that holds the places
pub front_places : (n : ℕ) (places rest : List ℕ) → length places ≡ n → take n (places ++ rest) ≡ places
front_places n places rest h = rw (← h) (take-append_seam places rest)
