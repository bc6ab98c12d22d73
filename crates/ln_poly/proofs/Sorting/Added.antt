-- Two polynomials have a sum.
use Rattle.std.proofs.Common.{◌≡◌, ◌⊎◌, inl, inr, ℕ, ◌+◌, ◌<◌, ◌≤◌, ◌^◌, refl, sym, ◌∙◌, ap, arith, List, [], ◌∷◌, Less, Equal, Greater}
use Rattle.std.proofs.Math.IntN.{ℤ, ◌+ℤ◌}
use Rattle.std.proofs.lemmas.Int.{ints}
use Rattle.std.proofs.lemmas.List.Elements.{All-cons, All-from_recursion, All-head, All-nil, All-tail, recursion_from_All}
use Rattle.std.specs.List.{All}
use Rattle.std.specs.List.Sorted.{IsStrictlySortedBy}
use Rattle.std.specs.Ordering.{MatchOrdering, is_eq, on, ordering_reverse}
use Rattle.std.specs.declared.cmp.Ordering.{Ordering}
use Rattle.ln_algebra.specs.Vector.{same_vector}
use Rattle.ln_tree.specs.Exps.{IsAbove, IsRising, Pairs, pairs_cmp, pairs_cmp-total, same_pairs-is, same_pairs-ties, vector}
use Rattle.ln_poly.specs.Merge.{AreInOrder, HaveFactors, IsMerge, passing, weight_of}
use Rattle.ln_poly.specs.Sparse.{AreBelow, AreSorted, IsFactor, IsPoly, ComesBefore, Sparse, coefficient_at, part_at, size_of}
use Rattle.ln_poly.proofs.Sorting.Merges.{merge-factors, merge-in_order, merge-keys, merge-passing, merge-weight, merges}
use Rattle.ln_poly.proofs.TermLists.Coefficients.{coefficient_at-cons, coefficient_at-nil, size-cons, size-nil}

-- ---- terms whose keys are pairs
-- the coefficient is the sum of the factors of the terms with these exponents
coefficient-passing : (n : ℕ) (m : List ℕ) (f : Sparse) → coefficient_at n f m ≡ passing (λ e. same_vector (vector n e) m) f
unfolding part_at
coefficient-passing n m [] = coefficient_at-nil n m
coefficient-passing n m (t ∷ f) = omega (arith, ints, coefficient-passing n m f, coefficient_at-cons n m t f)

-- the sum of the absolute factors
pub size-weight : (f : Sparse) → size_of f ≡ weight_of f
size-weight [] = size-nil
size-weight (t ∷ f) = omega (arith, size-weight f, size-cons t f)

in_order : (f : Sparse) → IsStrictlySortedBy (on (λ (t : Pairs × ℤ). t.0) pairs_cmp) f → AreInOrder ComesBefore f
unfolding IsStrictlySortedBy
in_order [] s = tt
in_order (t ∷ f) s = (s.0, in_order f s.1)

sorted : (f : Sparse) → AreInOrder ComesBefore f → IsStrictlySortedBy (on (λ (t : Pairs × ℤ). t.0) pairs_cmp) f
unfolding IsStrictlySortedBy
sorted [] s = tt
sorted (t ∷ f) s = (s.0, sorted f s.1)

-- the order of two monomials
pub pairs-ranked : (a b : Pairs) (r : Ordering) → r ≡ pairs_cmp a b → MatchOrdering r (ComesBefore a b) (a ≡ b) (ComesBefore b a)
pairs-ranked a b Less e = sym e
pairs-ranked a b Equal e = same_pairs-is a b (same_pairs-ties a b ∙ ap is_eq (sym e))
pairs-ranked a b Greater e = pairs_cmp-total.antisymm b a ∙ ap ordering_reverse (sym e)

pairs-total : (a b : Pairs) → ComesBefore a b ⊎ ((a ≡ b) ⊎ ComesBefore b a)
pairs-total a b = by_case (pairs_cmp a b) (pairs-ranked a b (pairs_cmp a b) refl) where
  by_case : (r : Ordering) → MatchOrdering r (ComesBefore a b) (a ≡ b) (ComesBefore b a) → ComesBefore a b ⊎ ((a ≡ b) ⊎ ComesBefore b a)
  by_case Less l = inl l
  by_case Equal l = inr (inl l)
  by_case Greater l = inr (inr l)

-- ---- what is merged is the sum
module _ (f g h : Sparse) (m : IsMerge ComesBefore f g h) where
  -- its coefficient is the sum of theirs
  pub merged-coefficient : (n : ℕ) (k : List ℕ) → coefficient_at n h k ≡ coefficient_at n f k +ℤ coefficient_at n g k
  merged-coefficient n k = omega (
    arith,
    ints,
    merge-passing ComesBefore (λ e. same_vector (vector n e) k) f g h m,
    coefficient-passing n k f,
    coefficient-passing n k g,
    coefficient-passing n k h,
  )

  -- its size is at most that of both
  pub merged-size : size_of h ≤ size_of f + size_of g
  merged-size = omega (arith, merge-weight ComesBefore f g h m, size-weight f, size-weight g, size-weight h)

  -- it is sorted where both are
  pub merged-sorted : AreSorted f → AreSorted g → AreSorted h
  merged-sorted a b = sorted h (merge-in_order ComesBefore pairs_cmp-total.trans f g h m (in_order f a) (in_order g b))

  -- what holds of each monomial of both holds of each
  pub merged-all : (P : Pairs → Type 0) → All (λ t. P t.0) f → All (λ t. P t.0) g → All (λ t. P t.0) h
  merged-all P a b = All-from_recursion (λ (t : Pairs × ℤ). P t.0) h
      (merge-keys ComesBefore P f g h m (recursion_from_All (λ (t : Pairs × ℤ). P t.0) f a) (recursion_from_All (λ (t : Pairs × ℤ). P t.0) g b))

-- ---- a sum exists
have-factors : (f : Sparse) → All (λ t. IsFactor t.1) f → HaveFactors f
have-factors [] h = tt
have-factors (t ∷ f) h = ((All-head (λ z. IsFactor z.1) t f h).0, have-factors f (All-tail (λ z. IsFactor z.1) t f h))

are-factors : (f : Sparse) → HaveFactors f → size_of f < 2 ^ 127 → All (λ t. IsFactor t.1) f
are-factors [] h l = All-nil (λ t. IsFactor t.1)
are-factors (t ∷ f) h l = All-cons (λ z. IsFactor z.1) t f (h.0, omega (arith, l, size-cons t f)) (are-factors f h.1 (omega (arith, l, size-cons t f)))

-- a polynomial that is the sum
pub record HasSum (f g : Sparse) : Type 0 where
  pub poly : Sparse
  pub coefficients : (n : ℕ) (m : List ℕ) → coefficient_at n poly m ≡ coefficient_at n f m +ℤ coefficient_at n g m
  pub size : size_of poly ≤ size_of f + size_of g
  pub form : IsPoly poly
  pub below : (k : ℕ) → AreBelow k f → AreBelow k g → AreBelow k poly

-- the sum of two polynomials
pub sum-exists : (f g : Sparse) → IsPoly f → IsPoly g → size_of f + size_of g < 2 ^ 127 → HasSum f g
sum-exists f g p q room =
    let m = merges ComesBefore pairs-total f g in
    let s = merged-size f g m.terms m.merge in
    record {
      poly = m.terms;
      coefficients = merged-coefficient f g m.terms m.merge;
      size = s;
      form = record {
        sorted = merged-sorted f g m.terms m.merge p.sorted q.sorted;
        rising = merged-all f g m.terms m.merge IsRising p.rising q.rising;
        factors = are-factors m.terms (merge-factors ComesBefore f g m.terms m.merge (have-factors f p.factors) (have-factors g q.factors))
            (omega (arith, s, room));
      };
      below = λ k. merged-all f g m.terms m.merge (λ e. IsAbove e k);
    }
