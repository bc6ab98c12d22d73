-- Terms sorted, with like ones collected and zeros left out.
use Rattle.std.proofs.Common.{◌≡◌, ℕ, ◌<◌, ◌≤◌, ◌^◌, ◌≢◌, zero, suc, refl, sym, ap, subst, arith, List, [], ◌∷◌, get_or, Bool, true, false, cond, not}
use Rattle.std.proofs.lemmas.Int.{ints}
use Rattle.std.proofs.Math.IntN.{ℤ, pos}
use Rattle.std.proofs.lemmas.List.{get_or-map, length-map}
use Rattle.std.specs.List.{filter, All, AllByRecursion}
use Rattle.std.specs.List.Sorted.{IsStrictlySortedBy}
use Rattle.std.specs.Ordering.{int_eq, on}
use Rattle.std.specs.declared.cmp.Ordering.TheVariants.{Less}
use Rattle.std.proofs.lemmas.Bool.{false≢true, not-false}
use Rattle.std.proofs.lemmas.Bool.Decides.{Decides-int_eq}
use Rattle.std.proofs.lemmas.List.Elements.{All-cons, All-filter, All-nil}
use Rattle.std.proofs.lemmas.List.Kept.{IsStrictlySortedBy-filter}
use Rattle.ln_tree.specs.Exps.{Pairs, IsRising, pairs_cmp}
use Rattle.ln_poly.specs.Sparse.{AreRising, AreSorted, IsFactor, IsPoly, Sparse, coefficient_at, exps_of, part_at, size_of}
use Rattle.ln_poly.specs.Sums.{added_at}
use Rattle.ln_poly.proofs.TermLists.Coefficients.{coefficient_at-cons, part-zero, size-cons}

-- a factor is added, the exponents stay
pub exps-added : (xs : Sparse) (i : ℕ) (t : Pairs × ℤ) → exps_of (added_at xs i t) ≡ exps_of xs
exps-added [] i t = refl
exps-added (x ∷ xs) zero t = refl
exps-added (x ∷ xs) (suc i) t = ap (λ z. x.0 ∷ z) (exps-added xs i t)

-- ---- zeros
-- the test of equality of integers
pub int_eq-is : (y z : ℤ) → int_eq y z ≡ true → y ≡ z
int_eq-is y z h = (Decides-int_eq y z).0 h

-- is the factor another than 0?
abbrev pub has_factor : Pairs × ℤ → Bool
has_factor t = not (int_eq t.1 (pos 0))

zero_factor : (t : Pairs × ℤ) → has_factor t ≡ false → t.1 ≡ pos 0
zero_factor t h = int_eq-is t.1 (pos 0) (not-false (int_eq t.1 (pos 0)) h)

some_factor : (t : Pairs × ℤ) → has_factor t ≡ true → t.1 ≢ pos 0
some_factor t h = λ e. let f : not (int_eq (pos 0) (pos 0)) ≡ true = rw e at h in absurd (false≢true f)

-- leaving out zeros changes no coefficient
pub filtered-coefficient : (n : ℕ) (m : List ℕ) (xs : Sparse) → coefficient_at n (filter has_factor xs) m ≡ coefficient_at n xs m
filtered-coefficient n m [] = refl
filtered-coefficient n m (x ∷ xs) = by_case (has_factor x) refl (filtered-coefficient n m xs) where
  by_case : (b : Bool) → has_factor x ≡ b → coefficient_at n (filter has_factor xs) m ≡ coefficient_at n xs m
      → coefficient_at n (cond b (x ∷ filter has_factor xs) (filter has_factor xs)) m ≡ coefficient_at n (x ∷ xs) m
  by_case true e h = omega (arith, ints, h, coefficient_at-cons n m x xs, coefficient_at-cons n m x (filter has_factor xs))
  by_case false e h = omega (arith, ints, h, coefficient_at-cons n m x xs, ap (λ z. part_at n (x.0, z) m) (zero_factor x e), part-zero n m x.0)

-- leaving out zeros adds nothing to the sum of the absolute factors
pub filtered-size : (xs : Sparse) → size_of (filter has_factor xs) ≤ size_of xs
filtered-size [] = omega arith
filtered-size (x ∷ xs) = by_case (has_factor x) (filtered-size xs) where
  by_case : (b : Bool) → size_of (filter has_factor xs) ≤ size_of xs → size_of (cond b (x ∷ filter has_factor xs) (filter has_factor xs)) ≤ size_of (x ∷ xs)
  by_case true h = omega (arith, h, size-cons x xs, size-cons x (filter has_factor xs))
  by_case false h = omega (arith, h, size-cons x xs)

filtered-factors : (xs : Sparse) → size_of xs < 2 ^ 127 → All (λ t. IsFactor t.1) (filter has_factor xs)
filtered-factors [] h = All-nil (λ t. IsFactor t.1)
filtered-factors (x ∷ xs) h = by_case (has_factor x) refl (filtered-factors xs (omega (arith, size-cons x xs))) where
  by_case : (b : Bool) → has_factor x ≡ b → All (λ t. IsFactor t.1) (filter has_factor xs)
      → All (λ t. IsFactor t.1) (cond b (x ∷ filter has_factor xs) (filter has_factor xs))
  by_case true e r = All-cons (λ t. IsFactor t.1) x (filter has_factor xs) (some_factor x e, omega (arith, size-cons x xs)) r
  by_case false e r = r

-- ---- what holds of exponents
on_exps : (P : Pairs → Type 0) (xs : Sparse) → All (λ t. P t.0) xs → All P (exps_of xs)
on_exps P xs h = λ k d l. subst P (sym (get_or-map (λ (z : Pairs × ℤ). z.0) xs k (d, pos 0) d (omega (arith, length-map xs (λ (z : Pairs × ℤ). z.0)))))
    (h k (d, pos 0) (omega (arith, length-map xs (λ (z : Pairs × ℤ). z.0))))

off_exps : (P : Pairs → Type 0) (xs : Sparse) → All P (exps_of xs) → All (λ t. P t.0) xs
off_exps P xs h = λ k t l. subst P (get_or-map (λ (z : Pairs × ℤ). z.0) xs k t t.0 l) (h k t.0 (omega (arith, length-map xs (λ (z : Pairs × ℤ). z.0))))

-- what holds of all exponents holds where they are the same
pub same-all : (P : Pairs → Type 0) (terms out : Sparse) → exps_of out ≡ exps_of terms → All (λ t. P t.0) terms → All (λ t. P t.0) out
same-all P terms out e h = off_exps P out (subst (All P) (sym e) (on_exps P terms h))

-- ---- order
strict-terms : (xs : Sparse) → IsStrictlySortedBy pairs_cmp (exps_of xs) → IsStrictlySortedBy (on (λ (t : Pairs × ℤ). t.0) pairs_cmp) xs
unfolding IsStrictlySortedBy
strict-terms [] h = tt
strict-terms (x ∷ xs) h = (all xs h.0, strict-terms xs h.1) where
  all : (ys : Sparse) → AllByRecursion (λ y. pairs_cmp x.0 y ≡ Less) (exps_of ys) → AllByRecursion (λ (y : Pairs × ℤ). pairs_cmp x.0 y.0 ≡ Less) ys
  all [] h = tt
  all (y ∷ ys) h = (h.0, all ys h.1)

terms-strict : (xs : Sparse) → AreSorted xs → IsStrictlySortedBy pairs_cmp (exps_of xs)
unfolding IsStrictlySortedBy
terms-strict [] h = tt
terms-strict (x ∷ xs) h = (all xs h.0, terms-strict xs h.1) where
  all : (ys : Sparse) → AllByRecursion (λ (y : Pairs × ℤ). pairs_cmp x.0 y.0 ≡ Less) ys → AllByRecursion (λ y. pairs_cmp x.0 y ≡ Less) (exps_of ys)
  all [] h = tt
  all (y ∷ ys) h = (h.0, all ys h.1)

-- terms with the exponents of sorted ones
pub same-sorted : (terms out : Sparse) → AreSorted terms → exps_of out ≡ exps_of terms → AreSorted out
same-sorted terms out s e = strict-terms out (subst (IsStrictlySortedBy pairs_cmp) (sym e) (terms-strict terms s))

-- the remaining terms make a polynomial
pub is_poly : (out : Sparse) → AreSorted out → size_of out < 2 ^ 127 → AreRising out → IsPoly (filter has_factor out)
is_poly out s z r = record {
  sorted = IsStrictlySortedBy-filter (on (λ (t : Pairs × ℤ). t.0) pairs_cmp) has_factor out s;
  rising = All-filter has_factor (λ t. IsRising t.0) out r;
  factors = filtered-factors out z;
}
