-- The terms of a scaled derivative.
use Rattle.std.proofs.Common.{◌≡◌, All, Less, ℕ, ◌+◌, ◌-◌, ◌<◌, ◌≤◌, ◌^◌, zero, suc, refl, sym, ◌∙◌, ap, subst, arith, List, [], ◌∷◌}
use Rattle.std.proofs.Common.{length, drop, get_or, Bool, true, false, leb, unsigned_abs, ◌&&◌}
use Rattle.std.proofs.Math.Bool.{and-true}
use Rattle.std.proofs.lemmas.Bool.{cases_lt, le-leb, lt-leb}
use Rattle.std.proofs.lemmas.Int.{ints}
use Rattle.std.proofs.lemmas.List.{drop_all}
use Rattle.std.proofs.lemmas.List.Elements.{All-nil, All-push}
use mathlib.Core.Logic.{◌⊎◌, inl, inr}
use Rattle.std.proofs.Math.IntN.{ℤ, pos, ◌+ℤ◌, ◌*ℤ◌}
use Rattle.std.proofs.Math.Nat.{le-mul_of_pos_right, mul-pos}
use Rattle.ln_algebra.proofs.Bounding.Bounds.{weighted-derived}
use Rattle.ln_algebra.proofs.Vectors.Covering.{length-minus}
use Rattle.ln_algebra.specs.Terms.{binomial, binomials, covers, derived, factor_at, minus}
use Rattle.ln_algebra.specs.Weights.{monomial_weight, weighted_sum}
use Rattle.ln_bound.specs.Light.{most}
use Rattle.ln_bound.specs.Value.{sizes, weights}
use Rattle.ln_tree.specs.declared.shape.VarInfo.{VarInfo}
use Rattle.ln_tree.specs.Exps.{IsAbove, IsRising, Pairs, exponent, exponents_from, pairs_cmp, vector}
use Rattle.ln_tree.proofs.Monomials.{order-kept}
use Rattle.ln_poly.proofs.Sorting.Rising.{none-sorted, sorted-at, sorted-push}
use Rattle.ln_poly.specs.Times.{power_at}
use Rattle.ln_poly.specs.Sparse.{AreBelow, AreRising, AreSorted, IsPoly, Sparse, coefficient_at, part_at, size_of, terms_of}
use Rattle.ln_poly.specs.Derivative.{IsDerivedPut, IsDeriving, IsLowered, derivative}
use Rattle.ln_poly.proofs.TermLists.Coefficients.{coefficient_at-nil, coefficient_at-push, size-nil, size-push}
use Rattle.ln_tree.proofs.Powers.{power-apart, power-here}
use Rattle.ln_poly.proofs.Sorting.Merging.{above-none, none-above}
use Rattle.ln_poly.proofs.Derivations.Combined.{binomial-none}
use Rattle.ln_poly.proofs.TermLists.Products.{drop-read, length-vector}
use Rattle.ln_poly.proofs.Loads.Weighing.{pow-some, size-some}

-- ---- the vector of one variable
-- after its variable a single pair has no exponent
single-here : (v w n : ℕ) → v ≡ w → exponent w ((v, n) ∷ []) ≡ n
single-here v w n e = omega (arith, power-here w (v, n) e)

single-apart : (v w n : ℕ) → (v ≡ w → ⊥) → exponent w ((v, n) ∷ []) ≡ 0
single-apart v w n e = omega (arith, power-apart w (v, n) e)

covers-after : (w k v n : ℕ) (ps : Pairs) → v < w → covers (exponents_from w k ps) (exponents_from w k ((v, n) ∷ [])) ≡ true
covers-after w zero v n ps h = refl
covers-after w (suc k) v n ps h =
    rw (single-apart v w n (λ e. absurd (omega arith)), le-leb 0 (exponent w ps) (omega arith), covers-after (suc w) k v n ps (omega arith)) refl

covers-single : (w k v n : ℕ) (ps : Pairs) → w ≤ v → v < w + k → covers (exponents_from w k ps) (exponents_from w k ((v, n) ∷ [])) ≡ leb n (exponent v ps)
covers-single w zero v n ps h l = absurd (omega arith)
covers-single w (suc k) v n ps h l = by_case (cases_lt w v) (λ g. covers-single (suc w) k v n ps g (omega arith)) where
  by_case : (w < v) ⊎ (v ≤ w) → (suc w ≤ v → covers (exponents_from (suc w) k ps) (exponents_from (suc w) k ((v, n) ∷ [])) ≡ leb n (exponent v ps))
      → covers (exponents_from w (suc k) ps) (exponents_from w (suc k) ((v, n) ∷ [])) ≡ leb n (exponent v ps)
  by_case (inl g) ih = rw (single-apart v w n (λ e. absurd (omega arith)), le-leb 0 (exponent w ps) (omega arith)) (ih (omega arith))
  by_case (inr g) ih =
      let e : w ≡ v = omega arith in
      rw (single-here v w n (sym e), covers-after (suc w) k v n ps (omega arith), and-true (leb n (exponent w ps))) (ap (λ z. leb n (exponent z ps)) e)

minus-single : (w k v n : ℕ) (e ps : Pairs) → ((u : ℕ) → exponent u e + power_at u (v, n) ≡ exponent u ps)
    → minus (exponents_from w k ps) (exponents_from w k ((v, n) ∷ [])) ≡ exponents_from w k e
minus-single w zero v n e ps h = refl
minus-single w (suc k) v n e ps h =
    let x : exponent w ps - exponent w ((v, n) ∷ []) ≡ exponent w e = omega (arith, h w) in
    rw (x, minus-single (suc w) k v n e ps h) refl

binomials-after : (w k v n : ℕ) (ps : Pairs) → v < w → binomials (exponents_from w k ps) (exponents_from w k ((v, n) ∷ [])) ≡ 1
binomials-after w zero v n ps h = refl
binomials-after w (suc k) v n ps h =
    rw (single-apart v w n (λ e. absurd (omega arith)), binomial-none (exponent w ps), binomials-after (suc w) k v n ps (omega arith)) refl

binomials-single : (w k v n : ℕ) (ps : Pairs) → w ≤ v → v < w + k
    → binomials (exponents_from w k ps) (exponents_from w k ((v, n) ∷ [])) ≡ binomial (exponent v ps) n
binomials-single w zero v n ps h l = absurd (omega arith)
binomials-single w (suc k) v n ps h l = by_case (cases_lt w v) (λ g. binomials-single (suc w) k v n ps g (omega arith)) where
  by_case : (w < v) ⊎ (v ≤ w) → (suc w ≤ v → binomials (exponents_from (suc w) k ps) (exponents_from (suc w) k ((v, n) ∷ [])) ≡ binomial (exponent v ps) n)
      → binomials (exponents_from w (suc k) ps) (exponents_from w (suc k) ((v, n) ∷ [])) ≡ binomial (exponent v ps) n
  by_case (inl g) ih = rw (single-apart v w n (λ e. absurd (omega arith)), binomial-none (exponent w ps)) (omega (arith, ih (omega arith)))
  by_case (inr g) ih =
      let e : w ≡ v = omega arith in
      rw (single-here v w n (sym e), binomials-after (suc w) k v n ps (omega arith)) (omega (arith, ap (λ z. binomial (exponent z ps) n) e))

-- ---- one term
-- a term that the derivative drops
dropped : (k v n : ℕ) (t : Pairs × ℤ) (f : Sparse) → v < k → exponent v t.0 < n → derivative k v n (t ∷ f) ≡ derivative k v n f
dropped k v n t f l h =
    let c : covers (vector k t.0) (vector k ((v, n) ∷ [])) ≡ false = covers-single 0 k v n t.0 (omega arith) (omega arith) ∙ lt-leb n (exponent v t.0) h in
    rw c refl

-- a term that it keeps, with the vector that remains
kept : (k v n : ℕ) (t : Pairs × ℤ) (f : Sparse) (m : List ℕ) → v < k → n ≤ exponent v t.0 → minus (vector k t.0) (vector k ((v, n) ∷ [])) ≡ m
    → derivative k v n (t ∷ f) ≡ record { exponents = m; factor = t.1 *ℤ pos (binomial (exponent v t.0) n) } ∷ derivative k v n f
kept k v n t f m l h p =
    let c : covers (vector k t.0) (vector k ((v, n) ∷ [])) ≡ true = covers-single 0 k v n t.0 (omega arith) (omega arith) ∙ le-leb n (exponent v t.0) h in
    rw (c, p, binomials-single 0 k v n t.0 (omega arith) (omega arith)) refl

-- what it adds to a coefficient
kept-coefficient : (k v n : ℕ) (m : List ℕ) (t : Pairs × ℤ) (f : Sparse) (e : Pairs) → v < k → n ≤ exponent v t.0 → IsLowered e t.0 v n
    → factor_at (derivative k v n (t ∷ f)) m ≡ part_at k (e, t.1 *ℤ pos (binomial (exponent v t.0) n)) m +ℤ factor_at (derivative k v n f) m
unfolding part_at
kept-coefficient k v n m t f e l h r = ap (λ z. factor_at z m) (kept k v n t f (vector k e) l h (minus-single 0 k v n e t.0 r.exponents))

monomial-some : (w : ℕ → ℕ) (m : List ℕ) → ((u : ℕ) → u < length m → 0 < w u) → 0 < monomial_weight w m
monomial-some w [] h = omega arith
monomial-some w (n ∷ m) h =
    mul-pos (pow-some (w 0) n (h 0 (omega arith))) (monomial-some (λ v. w (suc v)) m (λ u l. h (suc u) (omega arith)))

-- its factor weighs no more than it does
kept-weight : (vars : List VarInfo) (v n : ℕ) (t : Pairs × ℤ) (f : Sparse) → v < length vars → n ≤ exponent v t.0
    → unsigned_abs (t.1 *ℤ pos (binomial (exponent v t.0) n)) + weighted_sum (sizes vars) (derivative (length vars) v n f)
    ≤ weighted_sum (sizes vars) (derivative (length vars) v n (t ∷ f))
kept-weight vars v n t f l h =
    let k : ℕ = length vars in
    let a : List ℕ = vector k ((v, n) ∷ []) in
    let m : List ℕ = minus (vector k t.0) a in
    let e : length m ≡ k = length-minus (vector k t.0) a (length-vector 0 k t.0 ∙ sym (length-vector 0 k ((v, n) ∷ []))) ∙ length-vector 0 k t.0 in
    let s : 0 < monomial_weight (sizes vars) m = monomial-some (sizes vars) m (λ u q. size-some vars u (omega (arith, q, e))) in
    omega (
      arith,
      ap (weighted_sum (sizes vars)) (kept k v n t f m l h refl),
      le-mul_of_pos_right (unsigned_abs (t.1 *ℤ pos (binomial (exponent v t.0) n))) s,
    )

lowered-below : (k v n : ℕ) (e ps : Pairs) → IsLowered e ps v n → IsAbove ps k → IsAbove e k
lowered-below k v n e ps r a = none-above k e r.rising (λ u l. omega (arith, r.exponents u, above-none k u ps a l))

-- ---- the loop
-- the loop in `derive` begins with no term derived and an empty result
pub deriving-init : (f : Sparse) (k v n : ℕ) (w : ℕ → ℕ) → IsDeriving [] f k v n 0 w
deriving-init f k v n w = record {
  coefficients = λ m. omega (arith, ints, coefficient_at-nil k m);
  size = omega (arith, size-nil);
  rising = All-nil (λ z. IsRising z.0);
  below = All-nil (λ z. IsAbove z.0 k);
  sorted = none-sorted;
  before = λ a e r p l. All-nil (λ y. pairs_cmp y.0 e ≡ Less);
}

-- derivatives are in the order of the terms
lowered-kept : (a b x y : Pairs) (v n : ℕ) → IsRising a → IsRising b → IsLowered x a v n → IsLowered y b v n → pairs_cmp a b ≡ Less → pairs_cmp x y ≡ Less
lowered-kept a b x y v n r s p q h = order-kept a b x y r s p.rising q.rising (λ u e. omega (arith, p.exponents u, q.exponents u, e))
    (λ u l. omega (arith, p.exponents u, q.exponents u, l)) h

-- the step of `derive`: the derivative of the next term is appended, where it has one
pub deriving-step : (vars : List VarInfo) (f' f out out' : Sparse) (v n i : ℕ) (t : Pairs × ℤ) → f' ≡ f → v < length vars
    → IsPoly f → AreBelow (length vars) f → i < length f' → t ≡ get_or f' i t → IsDeriving out f' (length vars) v n i (sizes vars)
    → (exponent v t.0 < n → out' ≡ out) → (n ≤ exponent v t.0 → IsDerivedPut out' out t v n) → IsDeriving out' f' (length vars) v n (i + 1) (sizes vars)
deriving-step vars f' f out out' v n i t q l poly b h e r x y = by_case (cases_lt (exponent v t.0) n) where
  above : IsAbove t.0 (length vars)
  above = subst (λ z. IsAbove z.0 (length vars)) (sym e) (subst (AreBelow (length vars)) (sym q) b i t h)

  rises : IsRising t.0
  rises = subst (λ z. IsRising z.0) (sym e) (subst AreRising (sym q) poly.rising i t h)

  earlier : (j : ℕ) (d : Pairs × ℤ) → j < i → pairs_cmp (get_or f' j d).0 t.0 ≡ Less
  earlier j d k = subst (λ z. pairs_cmp (get_or f' j d).0 z.0 ≡ Less) (sym e) (sorted-at f' j i d t k h (subst AreSorted (sym q) poly.sorted))

  k : ℕ
  k = length vars

  rest : Sparse
  rest = drop (i + 1) f'

  here : drop i f' ≡ t ∷ rest
  here = drop-read f' i t h e

  by_case : (exponent v t.0 < n) ⊎ (n ≤ exponent v t.0) → IsDeriving out' f' (length vars) v n (i + 1) (sizes vars)
  by_case (inl g) = record {
    coefficients = λ m. omega (
      arith,
      ints,
      ap (λ z. coefficient_at k z m) (x g),
      r.coefficients m,
      ap (λ z. factor_at z m) (ap (derivative k v n) here ∙ dropped k v n t rest l g),
    );
    size = omega (arith, ap size_of (x g), r.size, ap (weighted_sum (sizes vars)) (ap (derivative k v n) here ∙ dropped k v n t rest l g));
    rising = subst AreRising (sym (x g)) r.rising;
    below = subst (AreBelow (length vars)) (sym (x g)) r.below;
    sorted = subst AreSorted (sym (x g)) r.sorted;
    before = λ a z w p k. subst (All (λ s. pairs_cmp s.0 z ≡ Less)) (sym (x g)) (r.before a z w (λ j d m. p j d (omega arith)) k);
  }
  by_case (inr g) =
      let p : IsDerivedPut out' out t v n = y g in
      let c : ℤ = t.1 *ℤ pos (binomial (exponent v t.0) n) in
      record {
        coefficients = λ m. omega (
          arith,
          ints,
          ap (λ z. coefficient_at k z m) p.put,
          coefficient_at-push k m out (p.exps, c),
          r.coefficients m,
          ap (λ z. factor_at (derivative k v n z) m) here,
          kept-coefficient k v n m t rest p.exps l g p.lowered,
        );
        size = omega (
          arith,
          ap size_of p.put,
          size-push out (p.exps, c),
          r.size,
          ap (λ z. weighted_sum (sizes vars) (derivative k v n z)) here,
          kept-weight vars v n t rest l g,
        );
        rising = subst AreRising (sym p.put) (All-push (λ z. IsRising z.0) out (p.exps, c) r.rising p.lowered.rising);
        below = subst (AreBelow (length vars)) (sym p.put)
            (All-push (λ z. IsAbove z.0 (length vars)) out (p.exps, c) r.below (lowered-below (length vars) v n p.exps t.0 p.lowered above));
        sorted = subst AreSorted (sym p.put) (sorted-push out (p.exps, c) r.sorted (r.before t.0 p.exps rises earlier p.lowered));
        before = λ a z w k m.
            let last : pairs_cmp t.0 a ≡ Less = subst (λ s. pairs_cmp s.0 a ≡ Less) (sym e) (k i t (omega arith)) in
            subst (All (λ s. pairs_cmp s.0 z ≡ Less)) (sym p.put) (All-push (λ s. pairs_cmp s.0 z ≡ Less) out (p.exps, c)
            (r.before a z w (λ j d o. k j d (omega arith)) m) (lowered-kept t.0 a p.exps z v n rises w p.lowered m last));
      }

-- the derivatives of all terms
pub record AreDerived (out f : Sparse) (k v n : ℕ) (w : ℕ → ℕ) : Type 0 where
  pub coefficients : (m : List ℕ) → coefficient_at k out m ≡ factor_at (derivative k v n f) m
  pub size : size_of out ≤ weighted_sum w (derivative k v n f)

-- the end of the loop in `derive`: the derivatives of all terms are appended
pub deriving-end : (out f' f : Sparse) (k v n i : ℕ) (w : ℕ → ℕ) → f' ≡ f → length f' ≤ i → IsDeriving out f' k v n i w → AreDerived out f k v n w
deriving-end out f' f k v n i w q h r =
    let none : drop i f' ≡ [] = drop_all i f' h in
    record {
      coefficients = λ m. omega (
        arith,
        ints,
        r.coefficients m,
        ap (λ z. factor_at (derivative k v n z) m) none,
        ap (λ z. factor_at (derivative k v n z) m) q,
      );
      size = omega (arith, r.size, ap (λ z. weighted_sum w (derivative k v n z)) q);
    }

-- in `derive` the factor of each term's derivative is below 2^127, as the weighted sum of the derivative is
pub deriving-room : (vars : List VarInfo) (f' f out : Sparse) (v n i : ℕ) (t : Pairs × ℤ) → f' ≡ f → v < length vars
    → weighted_sum (sizes vars) (derivative (length vars) v n f) ≤ most → i < length f' → t ≡ get_or f' i t
    → IsDeriving out f' (length vars) v n i (sizes vars) → n ≤ exponent v t.0
    → unsigned_abs (t.1 *ℤ pos (binomial (exponent v t.0) n)) < 2 ^ 127
deriving-room vars f' f out v n i t q l s h e r g =
    omega (
      arith,
      s,
      ap (λ z. weighted_sum (sizes vars) (derivative (length vars) v n z)) q,
      r.size,
      ap (λ z. weighted_sum (sizes vars) (derivative (length vars) v n z)) (drop-read f' i t h e),
      kept-weight vars v n t (drop (i + 1) f') l g,
    )

-- ---- derivatives of a polynomial whose weight isn't too large
-- by weights that are the same up to its last variable a monomial weighs the same
pub same-monomial : (w u : ℕ → ℕ) (m : List ℕ) → ((v : ℕ) → v < length m → w v ≡ u v) → monomial_weight w m ≡ monomial_weight u m
same-monomial w u [] h = refl
same-monomial w u (k ∷ m) h =
    let e : w 0 ≡ u 0 = h 0 (omega arith) in
    let r : monomial_weight (λ v. w (suc v)) m ≡ monomial_weight (λ v. u (suc v)) m =
    same-monomial (λ v. w (suc v)) (λ v. u (suc v)) m (λ v l. h (suc v) (omega arith)) in
    rw (e, r) refl

same-weight : (n : ℕ) (w u : ℕ → ℕ) (f : Sparse) → ((v : ℕ) → v < n → w v ≡ u v) → weighted_sum w (terms_of n f) ≡ weighted_sum u (terms_of n f)
same-weight n w u [] h = refl
same-weight n w u (t ∷ f) h =
    let e : monomial_weight w (vector n t.0) ≡ monomial_weight u (vector n t.0) =
    same-monomial w u (vector n t.0) (λ v l. h v (omega (arith, l, length-vector 0 n t.0))) in
    let r : weighted_sum w (terms_of n f) ≡ weighted_sum u (terms_of n f) = same-weight n w u f h in
    rw (e, r) refl

one-larger : (vars : List VarInfo) (v : ℕ) → v < length vars → sizes vars v + 1 ≡ weights vars v
one-larger [] v h = absurd (omega arith)
one-larger (i ∷ vars) zero h = refl
one-larger (i ∷ vars) (suc v) h = one-larger vars v (omega arith)

-- the weighted sum over M of each scaled derivative is within 128 bits where that of the polynomial over w is
pub derived-light : (vars : List VarInfo) (a : List ℕ) (f : Sparse) → weighted_sum (weights vars) (terms_of (length vars) f) ≤ most
    → weighted_sum (sizes vars) (derived a (terms_of (length vars) f)) ≤ most
derived-light vars a f h =
    omega (
      arith,
      h,
      weighted-derived (sizes vars) a (terms_of (length vars) f),
      same-weight (length vars) (λ u. sizes vars u + 1) (weights vars) f (one-larger vars),
    )
