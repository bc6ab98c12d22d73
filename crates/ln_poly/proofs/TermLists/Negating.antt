-- Terms with the other sign.
use Rattle.std.proofs.Common.{◌≡◌, ℕ, ◌+◌, ◌<◌, ◌≤◌, zero, suc, refl, sym, ◌∙◌, ap, subst, arith, add-one, List, [], ◌∷◌, ◌++◌, length, take}
use Rattle.std.proofs.Common.{drop, set, get_or, unsigned_abs, ◌^◌, ◌-ℤ◌, to_z, of_z, FitsSigned, Bool, true, false, if◌then◌else◌}
use Rattle.std.proofs.Math.IntN.{ℤ, pos, neg_ℤ}
use Rattle.std.proofs.lemmas.Int.{ints, to_z-of_z}
use mir.Syntax.{w128}
use Rattle.std.proofs.lemmas.List.{append-nil, drop_all, length-set, take_all}
use Rattle.std.proofs.lemmas.List.Elements.{All-map}
use Rattle.std.specs.Prelude.{All}
use Rattle.std.specs.List.{AllByRecursion}
use Rattle.std.specs.List.Sorted.{IsStrictlySortedBy}
use Rattle.std.specs.Ordering.{on}
use Rattle.std.specs.declared.cmp.Ordering.TheVariants.{Less}
use Rattle.ln_algebra.specs.Vector.{same_vector}
use Rattle.ln_tree.specs.Exps.{IsAbove, IsRising, Pairs, pairs_cmp, vector}
use Rattle.ln_poly.specs.Sparse.{AreBelow, AreRising, IsFactor, IsPoly, Sparse, coefficient_at, negated, part_at, size_of}
use Rattle.ln_poly.proofs.TermLists.Coefficients.{coefficient_at-cons, coefficient_at-nil, size-cons}

part-negated : (n : ℕ) (m : List ℕ) (t : Pairs × ℤ) → part_at n (t.0, neg_ℤ t.1) m ≡ neg_ℤ (part_at n t m)
unfolding part_at
part-negated n m t = by_case (same_vector (vector n t.0) m) where
  by_case : (b : Bool) → (if b then neg_ℤ t.1 else pos 0) ≡ neg_ℤ (if b then t.1 else pos 0)
  by_case true = refl
  by_case false = refl

-- a term with the other sign
abbrev turned_sign : Pairs × ℤ → Pairs × ℤ
turned_sign t = (t.0, neg_ℤ t.1)

-- each coefficient has the other sign
pub coefficient-negated : (n : ℕ) (m : List ℕ) (f : Sparse) → coefficient_at n (negated f) m ≡ neg_ℤ (coefficient_at n f m)
coefficient-negated n m [] = omega (arith, ints, coefficient_at-nil n m)
coefficient-negated n m (t ∷ f) =
    omega (arith, ints, coefficient_at-cons n m t f, coefficient_at-cons n m (t.0, neg_ℤ t.1) (negated f), part-negated n m t, coefficient-negated n m f)

-- the sum of the absolute factors is the same
pub size-negated : (f : Sparse) → size_of (negated f) ≡ size_of f
size-negated [] = refl
size-negated (t ∷ f) = omega (arith, ints, size-cons t f, size-cons (t.0, neg_ℤ t.1) (negated f), size-negated f)

-- the pairs still rise
pub rising-negated : (f : Sparse) → AreRising f → AreRising (negated f)
rising-negated f r = All-map (λ t. IsRising t.0) turned_sign f r

-- the variables are still below n
pub below-negated : (n : ℕ) (f : Sparse) → AreBelow n f → AreBelow n (negated f)
below-negated n f r = All-map (λ t. IsAbove t.0 n) turned_sign f r

-- ---- the form
less-negated : (t : Pairs × ℤ) (f : Sparse) → AllByRecursion (λ u. on (λ t. t.0) pairs_cmp t u ≡ Less) f
    → AllByRecursion (λ u. on (λ t. t.0) pairs_cmp (t.0, neg_ℤ t.1) u ≡ Less) (negated f)
less-negated t [] h = tt
less-negated t (u ∷ f) h = (h.0, less-negated t f h.1)

sorted-negated : (f : Sparse) → IsStrictlySortedBy (on (λ t. t.0) pairs_cmp) f → IsStrictlySortedBy (on (λ t. t.0) pairs_cmp) (negated f)
unfolding IsStrictlySortedBy
sorted-negated [] h = tt
sorted-negated (t ∷ f) h = (less-negated t f h.0, sorted-negated f h.1)

factor-negated : (z : ℤ) → IsFactor z → IsFactor (neg_ℤ z)
factor-negated z h =
    (λ e. h.0 (omega (arith, ints, e)), let a : unsigned_abs (neg_ℤ z) ≡ unsigned_abs z = omega (arith, ints) in let b = h.1 in omega (arith, a, b))

factors-negated : (f : Sparse) → All (λ t. IsFactor t.1) f → All (λ t. IsFactor t.1) (negated f)
factors-negated f h = All-map (λ t. IsFactor t.1) turned_sign f (λ k d l. factor-negated (get_or f k d).1 (h k d l))

-- a polynomial with the other sign is a polynomial
pub poly-negated : (f : Sparse) → IsPoly f → IsPoly (negated f)
poly-negated f p = record { sorted = sorted-negated f p.sorted; rising = rising-negated f p.rising; factors = factors-negated f p.factors }

-- ---- one sign after another
-- where only the terms before place i have the other sign, the term at place i is the old one
pub negate-there : (xs : Sparse) (i : ℕ) (d : Pairs × ℤ) → i < length xs → get_or (negated (take i xs) ++ drop i xs) i d ≡ get_or xs i d
negate-there [] i d h = absurd (omega arith)
negate-there (x ∷ xs) zero d h = refl
negate-there (x ∷ xs) (suc i) d h = negate-there xs i d (omega arith)

negate-set : (xs : Sparse) (i : ℕ) (e : Pairs) (z : ℤ) → i < length xs → (e, z) ≡ get_or xs i (e, z)
    → set (negated (take i xs) ++ drop i xs) i (e, neg_ℤ z) ≡ negated (take (suc i) xs) ++ drop (suc i) xs
negate-set [] i e z h r = absurd (omega arith)
negate-set (x ∷ xs) zero e z h r = ap (λ (t : Pairs × ℤ). (t.0, neg_ℤ t.1) ∷ xs) r
negate-set (x ∷ xs) (suc i) e z h r = ap (λ s. (x.0, neg_ℤ x.1) ∷ s) (negate-set xs i e z (omega arith) r)

-- the terms below i have the other sign, the others not yet
pub record IsNegated (out xs : Sparse) (i : ℕ) : Type 0 where
  pub terms : out ≡ negated (take i xs) ++ drop i xs
  pub long : length out ≡ length xs

-- in `negate` the next factor is as it was: other than 0 and below 2^127
pub negated-factor : (out xs : Sparse) (i : ℕ) (e : Pairs) (z : ℤ) → IsNegated out xs i → i < length xs → (e, z) ≡ get_or out i (e, z)
    → All (λ t. IsFactor t.1) xs → IsFactor z
negated-factor out xs i e z r h k a =
    subst (λ (t : Pairs × ℤ). IsFactor t.1) (sym (k ∙ ap (λ s. get_or s i (e, z)) r.terms ∙ negate-there xs i (e, z) h)) (a i (e, z) h)

-- the step of `negate`: the next factor has the other sign
pub negated-step : (out xs : Sparse) (i : ℕ) (e : Pairs) (z w : ℤ) → IsNegated out xs i → i < length xs → (e, z) ≡ get_or out i (e, z)
    → w ≡ neg_ℤ z → IsNegated (set out i (e, w)) xs (i + 1)
negated-step out xs i e z w r h k t = record {
  terms = rw add-one (ap (λ s. set s i (e, w)) r.terms ∙ ap (λ s. set (negated (take i xs) ++ drop i xs) i (e, s)) t
      ∙ negate-set xs i e z h (k ∙ ap (λ s. get_or s i (e, z)) r.terms ∙ negate-there xs i (e, z) h));
  long = length-set out i (e, w) ∙ r.long;
}

-- after the last term all have the other sign
pub negated-end : (out xs : Sparse) (i : ℕ) → IsNegated out xs i → length xs ≤ i → out ≡ negated xs
negated-end out xs i r h = r.terms ∙ ap (λ z. negated (take i xs) ++ z) (drop_all i xs h) ∙ append-nil (negated (take i xs)) ∙ ap negated (take_all i xs h)

fits : (y : ℤ) → unsigned_abs y < 2 ^ 127 → FitsSigned w128 y
fits y l = omega (arith, ints)

-- the sign of a factor, as 128 bits compute it
pub turned-fits : (z : ℤ) → IsFactor z → FitsSigned w128 (pos 0 -ℤ to_z w128 (of_z w128 z))
turned-fits z f =
    subst (λ y. FitsSigned w128 (pos 0 -ℤ y)) (sym (to_z-of_z w128 z (fits z f.1))) (fits (pos 0 -ℤ z) (omega (arith, ints, f.1)))

-- and it is the sign turned
pub turned : (z : ℤ) → IsFactor z → to_z w128 (of_z w128 (pos 0 -ℤ to_z w128 (of_z w128 z))) ≡ neg_ℤ z
turned z f = to_z-of_z w128 (pos 0 -ℤ to_z w128 (of_z w128 z)) (turned-fits z f) ∙ ap (λ y. pos 0 -ℤ y) (to_z-of_z w128 z (fits z f.1)) ∙ minus where
  minus : pos 0 -ℤ z ≡ neg_ℤ z
  minus = omega (arith, ints)
