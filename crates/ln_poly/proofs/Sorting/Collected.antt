-- The terms of a polynomial differ in their vectors.
use Rattle.std.proofs.Common.{◌≡◌, ℕ, ◌+◌, ◌<◌, ◌≤◌, zero, suc, refl, sym, ◌∙◌, ap, arith, List, [], ◌∷◌, Bool, true, false, eqb, Less, if◌then◌else◌}
use Rattle.std.proofs.Math.IntN.{ℤ}
use Rattle.std.proofs.lemmas.Bool.{cases_lt}
use Rattle.std.proofs.lemmas.Cmp.{tied_itself}
use Rattle.std.proofs.lemmas.List.Elements.{All-head, All-tail}
use Rattle.std.specs.List.{AllByRecursion}
use Rattle.std.specs.List.Sorted.{IsStrictlySortedBy}
use Rattle.std.specs.Ordering.{on, is_eq}
use mathlib.Core.Logic.{◌⊎◌, inl, inr}
use Rattle.ln_algebra.proofs.Expanded.Normal.{same_vector-is}
use Rattle.ln_algebra.specs.Terms.{IsCollected, Lacks}
use Rattle.ln_algebra.specs.Vector.{same_vector}
use Rattle.ln_tree.specs.Exps.{IsAbove, IsRising, Pairs, exponent, exponents_from, pairs_cmp, pairs_cmp-total, vector}
use Rattle.ln_tree.proofs.Monomials.{first-here, none-before}
use Rattle.ln_poly.specs.Sparse.{AreBelow, AreRising, IsPoly, Sparse, terms_of}
use Rattle.ln_poly.proofs.Sorting.Merging.{above-none}

-- ---- pairs with equal exponents
-- rising pairs with equal exponents are equal
pub rising-same : (a b : Pairs) → IsRising a → IsRising b → ((v : ℕ) → exponent v a ≡ exponent v b) → a ≡ b
rising-same [] [] r s h = refl
rising-same [] (q ∷ b) r s h = absurd (omega (arith, s.0, h q.0, first-here q b s.2))
rising-same (p ∷ a) [] r s h = absurd (omega (arith, r.0, h p.0, first-here p a r.2))
rising-same (p ∷ a) (q ∷ b) r s h = by_case (λ e f. rising-same a b r.3 s.3 (rest e f)) (cases_lt p.0 q.0) (cases_lt q.0 p.0) where
  rest : p.0 ≡ q.0 → p.1 ≡ q.1 → (v : ℕ) → exponent v a ≡ exponent v b
  rest e f v =
      let g : (if eqb p.0 v then p.1 else 0) ≡ (if eqb q.0 v then q.1 else 0) =
      ap (λ z. if eqb z v then p.1 else 0) e ∙ ap (λ z. if eqb q.0 v then z else 0) f in
      omega (arith, h v, g)

  by_case : (p.0 ≡ q.0 → p.1 ≡ q.1 → a ≡ b) → (p.0 < q.0) ⊎ (q.0 ≤ p.0) → (q.0 < p.0) ⊎ (p.0 ≤ q.0) → p ∷ a ≡ q ∷ b
  by_case ih (inl l) k = absurd (omega (arith, r.0, h p.0, first-here p a r.2, none-before p.0 q b l s.2))
  by_case ih (inr l) (inl k) = absurd (omega (arith, s.0, h q.0, first-here q b s.2, none-before q.0 p a k r.2))
  by_case ih (inr l) (inr k) =
      let e : p.0 ≡ q.0 = omega arith in
      let f : p.1 ≡ q.1 = omega (arith, first-here p a r.2, h p.0, ap (λ z. exponent z (q ∷ b)) e, first-here q b s.2) in
      let t : a ≡ b = ih e f in
      let z : (p.0, p.1) ∷ a ≡ (q.0, q.1) ∷ b = rw (e, f, t) refl in
      z

-- equal vectors have equal exponents
exponent-from : (v n u : ℕ) (a b : Pairs) → exponents_from v n a ≡ exponents_from v n b → v ≤ u → u < v + n → exponent u a ≡ exponent u b
exponent-from v zero u a b h l k = absurd (omega arith)
exponent-from v (suc n) u a b h l k = by_case (cases_lt v u)
    (λ g. exponent-from (suc v) n u a b (heads (exponent v a) (exponent v b) (exponents_from (suc v) n a) (exponents_from (suc v) n b) h).1 g (omega arith))
  where
    heads : (x y : ℕ) (xs ys : List ℕ) → x ∷ xs ≡ y ∷ ys → (x ≡ y) × (xs ≡ ys)
    heads x y xs ys e = (cc, cc)

    by_case : (v < u) ⊎ (u ≤ v) → (suc v ≤ u → exponent u a ≡ exponent u b) → exponent u a ≡ exponent u b
    by_case (inl g) ih = ih (omega arith)
    by_case (inr g) ih =
        let e : v ≡ u = omega arith in
        let x : exponent v a ≡ exponent v b = (heads (exponent v a) (exponent v b) (exponents_from (suc v) n a) (exponents_from (suc v) n b) h).0 in
        rw e at x

-- rising pairs below n with equal vectors are equal
pub vectors-same : (n : ℕ) (a b : Pairs) → IsRising a → IsRising b → IsAbove a n → IsAbove b n → vector n a ≡ vector n b → a ≡ b
vectors-same n a b r s k l h = rising-same a b r s (λ v. by_case v (cases_lt v n)) where
  by_case : (v : ℕ) → (v < n) ⊎ (n ≤ v) → exponent v a ≡ exponent v b
  by_case v (inl g) = exponent-from 0 n v a b h (omega arith) (omega arith)
  by_case v (inr g) = omega (arith, above-none n v a k g, above-none n v b l g)

-- ---- terms
cmp-differ : (a b : Pairs) → pairs_cmp a b ≡ Less → a ≡ b → ⊥
cmp-differ a b h e =
    let x : pairs_cmp a a ≡ Less = ap (pairs_cmp a) e ∙ h in
    let y : is_eq (pairs_cmp a a) ≡ true = ap is_eq (tied_itself pairs_cmp-total a) in
    let z : is_eq Less ≡ true = ap is_eq (sym x) ∙ y in
    cc

lacks : (n : ℕ) (t : Pairs × ℤ) (f : Sparse) → AllByRecursion (λ (y : Pairs × ℤ). pairs_cmp t.0 y.0 ≡ Less) f → IsRising t.0 → IsAbove t.0 n
    → AreRising f → AreBelow n f → Lacks (terms_of n f) (vector n t.0)
lacks n t [] h r b rs bs = tt
lacks n t (y ∷ f) h r b rs bs =
    (by_case (same_vector (vector n y.0) (vector n t.0)) refl, lacks n t f h.1 r b (All-tail (λ z. IsRising z.0) y f rs) (All-tail (λ z. IsAbove z.0 n) y f bs))
  where
    by_case : (z : Bool) → same_vector (vector n y.0) (vector n t.0) ≡ z → z ≡ false
    by_case false e = refl
    by_case true e = absurd (cmp-differ t.0 y.0 h.0 (vectors-same n t.0 y.0 r (All-head (λ z. IsRising z.0) y f rs) b
        (All-head (λ z. IsAbove z.0 n) y f bs) (sym (same_vector-is (vector n y.0) (vector n t.0) e))))

collected-from : (n : ℕ) (f : Sparse) → IsStrictlySortedBy (on (λ (t : Pairs × ℤ). t.0) pairs_cmp) f → AreRising f → AreBelow n f → IsCollected (terms_of n f)
unfolding IsStrictlySortedBy
collected-from n [] s r b = tt
collected-from n (t ∷ f) s r b = (
  lacks n t f s.0 (All-head (λ z. IsRising z.0) t f r) (All-head (λ z. IsAbove z.0 n) t f b) (All-tail (λ z. IsRising z.0) t f r)
      (All-tail (λ z. IsAbove z.0 n) t f b),
  collected-from n f s.1 (All-tail (λ z. IsRising z.0) t f r) (All-tail (λ z. IsAbove z.0 n) t f b),
)

-- like monomials of a polynomial are collected
pub collected : (n : ℕ) (f : Sparse) → IsPoly f → AreBelow n f → IsCollected (terms_of n f)
collected n f p b = collected-from n f p.sorted p.rising b
