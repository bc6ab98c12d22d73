-- Weights, pair by pair and term by term.
use Rattle.std.proofs.Common.{◌≡◌, ℕ, ◌+◌, ◌*◌, ◌<◌, ◌≤◌, ◌^◌, zero, suc, refl, sym, ◌∙◌, ap, subst, arith, List, [], ◌∷◌, length, ◌-◌}
use Rattle.std.proofs.Common.{take, get_or, true, eqb, eq-eqb, unsigned_abs, add-one}
use Rattle.std.specs.Prelude.{MatchOption, None, Option, Some, slice_get}
use Rattle.std.proofs.Math.IntN.{ℤ, negsuc, pos}
use Rattle.std.proofs.Math.Nat.{pow-zero, pow-suc, mul-le-mul_left, mul-pos, mul_assoc, one-le-pow, pow-le-pow_right}
use Rattle.std.proofs.lemmas.List.{take_all}
use Rattle.std.proofs.lemmas.Bool.{ne_eqb}
use Rattle.std.proofs.lemmas.List.Sums.{sum_by-cons, sum_by_more, sum_by-take-le}
use Rattle.std.proofs.lemmas.List.Elements.{All-head, All-tail}
use Rattle.ln_algebra.proofs.Bounding.Weights.{monomial_weight-plus}
use Rattle.ln_algebra.specs.Terms.{Term}
use Rattle.ln_algebra.specs.Weights.{monomial_weight, weighted_sum}
use Rattle.ln_bound.specs.Light.{most}
use Rattle.ln_bound.specs.Value.{size_or, sizes, weight_or, weights}
use Rattle.ln_tree.specs.declared.shape.VarInfo.{VarInfo}
use Rattle.ln_tree.specs.Exps.{IsAbove, Pairs, exponents_from, vector}
use Rattle.ln_poly.specs.Sparse.{AreBelow, Sparse, terms_of}
use Rattle.ln_poly.specs.Weight.{IsWeighed, grown, grown_or, pairs_weight, term_weight, total_weight}
use Rattle.ln_poly.proofs.TermLists.Products.{length-vector, vector-plus}
use Rattle.ln_poly.proofs.TermLists.Vectors.{exponents-after}

-- ---- monomials
-- no pair: the monomial 1
weight-none : (w : ℕ → ℕ) (v n : ℕ) → monomial_weight w (exponents_from v n []) ≡ 1
weight-none w v zero = refl
weight-none w v (suc n) = rw pow-zero (omega (arith, weight-none (λ u. w (suc u)) (suc v) n))

-- a variable that came before
weight-before : (w : ℕ → ℕ) (v n u e : ℕ) → u < v → monomial_weight w (exponents_from v n ((u, e) ∷ [])) ≡ 1
weight-before w v n u e h = ap (monomial_weight w) (exponents-after v n u e [] h) ∙ weight-none w v n

weight-single : (w : ℕ → ℕ) (v n u x e : ℕ) → x ≡ v + u → u < n → monomial_weight w (exponents_from v n ((x, e) ∷ [])) ≡ w u ^ e
weight-single w v zero u x e q h = absurd (omega arith)
weight-single w v (suc n) zero x e q h =
    let t : eqb x v ≡ true = eq-eqb x v (omega arith) in
    rw t (omega (arith, ap (λ z. w 0 ^ (e + 0) * z) (weight-before (λ y. w (suc y)) (suc v) n x e (omega arith)), ap (λ z. w 0 ^ z) (plus_zero e))) where
      plus_zero : (k : ℕ) → k + 0 ≡ k
      plus_zero k = omega arith
weight-single w v (suc n) (suc u) x e q h =
    rw (ne_eqb x v (λ e. absurd (omega (arith, e, q))), pow-zero)
    (omega (arith, weight-single (λ y. w (suc y)) (suc v) n u x e (omega arith) (omega arith)))

-- the weight of pairs is that of their vector
pub weight-pairs : (w : ℕ → ℕ) (n : ℕ) (ps : Pairs) → IsAbove ps n → monomial_weight w (vector n ps) ≡ pairs_weight w ps
weight-pairs w n [] a = weight-none w 0 n
weight-pairs w n (p ∷ ps) a =
    ap (monomial_weight w) (vector-plus 0 n (p ∷ []) ps (p ∷ ps) (λ u. omega arith))
    ∙ monomial_weight-plus w (vector n (p ∷ [])) (vector n ps) (length-vector 0 n (p ∷ []) ∙ sym (length-vector 0 n ps))
    ∙ ap (λ z. z * monomial_weight w (vector n ps)) (weight-single w 0 n p.0 p.0 p.1 (omega arith) a.0)
    ∙ ap (λ z. w p.0 ^ p.1 * z) (weight-pairs w n ps a.1)

-- ---- sums
-- the weighted sum of the terms over n variables is their weight, counted pair by pair
pub total-weight : (w : ℕ → ℕ) (n : ℕ) (f : Sparse) → AreBelow n f → weighted_sum w (terms_of n f) ≡ total_weight w f
unfolding total_weight
total-weight w n [] a = refl
total-weight w n (t ∷ f) a =
    omega (
      arith,
      sum_by-cons (term_weight w) t f,
      total-weight w n f (All-tail (λ z. IsAbove z.0 n) t f a),
      ap (λ z. unsigned_abs t.1 * z) (weight-pairs w n t.0 (All-head (λ z. IsAbove z.0 n) t f a)),
    )

-- a list's weight is that of its first term and that of the others
pub total-cons : (w : ℕ → ℕ) (t : Pairs × ℤ) (f : Sparse) → total_weight w (t ∷ f) ≡ term_weight w t + total_weight w f
unfolding total_weight
total-cons w t f = sum_by-cons (term_weight w) t f

-- one term more adds its weight
pub total-more : (w : ℕ → ℕ) (f : Sparse) (i : ℕ) (t : Pairs × ℤ) → i < length f → t ≡ get_or f i t
    → total_weight w (take (i + 1) f) ≡ total_weight w (take i f) + term_weight w t
unfolding total_weight
total-more w f i t h e = omega (arith, sum_by_more (term_weight w) f i t h, ap (term_weight w) e)

-- the first terms weigh at most as much as all
pub total-take : (w : ℕ → ℕ) (f : Sparse) (i : ℕ) → total_weight w (take i f) ≤ total_weight w f
unfolding total_weight
total-take w f i = sum_by-take-le (term_weight w) f i

-- the empty list of terms weighs 0
pub total-nil : (w : ℕ → ℕ) → total_weight w [] ≡ 0
unfolding total_weight
total-nil w = refl

-- one term more is too large, and so is the whole
pub total-heavy : (w : ℕ → ℕ) (f : Sparse) (i : ℕ) (t : Pairs × ℤ) (s : ℕ) → i < length f → t ≡ get_or f i t → s ≡ total_weight w (take i f)
    → most < s + term_weight w t → most < total_weight w f
total-heavy w f i t s h e p q = omega (arith, total-more w f i t h e, total-take w f (i + 1))

-- ---- powers
-- a number that isn't 0 has an absolute value above 0
pub abs-some : (z : ℤ) → (z ≡ pos 0 → ⊥) → 0 < unsigned_abs z
abs-some (pos zero) n = absurd (n refl)
abs-some (pos (suc k)) n = omega arith
abs-some (negsuc k) n = omega arith

-- a power of a number above 0 is above 0
pub pow-some : (m k : ℕ) → 0 < m → 0 < m ^ k
pow-some m k h = omega (arith, one-le-pow k m h)

-- a higher power of a number above 0 is no smaller
pub pow-le : (m a d : ℕ) → 0 < m → m ^ a ≤ m ^ (a + d)
pow-le m a d h = let l : a ≤ a + d = omega arith in pow-le-pow_right h l

-- a lower power that is too large
pub scaled-heavy : (w m k e p : ℕ) → 0 < m → k < e → p ≡ w * m ^ k → most < p * m → most < w * m ^ e
scaled-heavy w m k e p h l q r =
    let d : ℕ = e - (k + 1) in
    let x : m ^ (k + 1) ≤ m ^ ((k + 1) + d) = pow-le m (k + 1) d h in
    let y : (k + 1) + d ≡ e = omega arith in
    let z : m ^ (k + 1) ≤ m ^ e = rw y at x in
    let u : m ^ (k + 1) ≡ m ^ k * m = rw add-one (pow-suc m k) in
    let v : p * m ≡ w * (m ^ k * m) = ap (λ t. t * m) q ∙ mul_assoc w (m ^ k) m in
    omega (arith, mul-le-mul_left w z, ap (λ t. w * t) u, v)

-- ---- pairs
-- each variable's size is above 0
pub size-some : (vars : List VarInfo) (v : ℕ) → v < length vars → 0 < sizes vars v
size-some [] v h = absurd (omega arith)
size-some (i ∷ vars) zero h = omega arith
size-some (i ∷ vars) (suc v) h = size-some vars v (omega arith)

-- each variable's weight is above 0
pub grown-some : (n : ℕ) (vars : List VarInfo) (v : ℕ) → v < length vars → 0 < grown n vars v
grown-some n [] v h = absurd (omega arith)
grown-some n (i ∷ vars) zero h = omega arith
grown-some n (i ∷ vars) (suc v) h = grown-some n vars v (omega arith)

-- each pair's variable is one of the first n
pub variable-at : (n : ℕ) (ps : Pairs) (i : ℕ) → IsAbove ps n → i < length ps → (get_or ps i (0, 0)).0 < n
variable-at n [] i a h = absurd (omega arith)
variable-at n (p ∷ ps) zero a h = a.0
variable-at n (p ∷ ps) (suc i) a h = variable-at n ps i a.1 (omega arith)

-- the weight of each pair's variable is above 0
pub size-at : (n : ℕ) (vars : List VarInfo) (ps : Pairs) (i : ℕ) → i < length ps → IsAbove ps (length vars) → 0 < grown n vars (get_or ps i (0, 0)).0
size-at n vars ps i h a = grown-some n vars (get_or ps i (0, 0)).0 (variable-at (length vars) ps i a h)

-- the weight of pairs isn't 0 where that of no variable is
pub weight-some : (n : ℕ) (w : ℕ → ℕ) → ((v : ℕ) → v < n → 0 < w v) → (ps : Pairs) → IsAbove ps n → 0 < pairs_weight w ps
weight-some n w h [] a = omega arith
weight-some n w h (p ∷ ps) a = mul-pos (pow-some (w p.0) p.1 (h p.0 a.0)) (weight-some n w h ps a.1)

pairs-more : (w : ℕ → ℕ) (ps : Pairs) (i : ℕ) → i < length ps
    → pairs_weight w (take (i + 1) ps) ≡ pairs_weight w (take i ps) * w (get_or ps i (0, 0)).0 ^ (get_or ps i (0, 0)).1
pairs-more w [] i h = absurd (omega arith)
pairs-more w (p ∷ ps) zero h = omega arith
pairs-more w (p ∷ ps) (suc i) h =
    let ih : pairs_weight w (take (suc i) ps) ≡ pairs_weight w (take i ps) * w (get_or ps i (0, 0)).0 ^ (get_or ps i (0, 0)).1 =
    rw add-one at (pairs-more w ps i (omega arith)) in
    rw add-one (ap (λ z. w p.0 ^ p.1 * z) ih ∙ sym (mul_assoc (w p.0 ^ p.1) (pairs_weight w (take i ps)) (w (get_or ps i (0, 0)).0 ^ (get_or ps i (0, 0)).1)))

pairs-take : (n : ℕ) (vars : List VarInfo) (ps : Pairs) (i : ℕ) → IsAbove ps (length vars)
    → pairs_weight (grown n vars) (take i ps) ≤ pairs_weight (grown n vars) ps
pairs-take n vars ps zero a = weight-some (length vars) (grown n vars) (grown-some n vars) ps a
pairs-take n vars [] (suc i) a = omega arith
pairs-take n vars (p ∷ ps) (suc i) a = mul-le-mul_left (grown n vars p.0 ^ p.1) (pairs-take n vars ps i a.1)

-- the step of `weight_of_term`: the power of one pair more is multiplied in, where the product is within the limit
pub weighed-step : (p q c : ℕ) (w : ℕ → ℕ) (ps : Pairs) (i : ℕ) → IsWeighed p c w ps i → i < length ps
    → q ≡ p * w (get_or ps i (0, 0)).0 ^ (get_or ps i (0, 0)).1 → q ≤ most → IsWeighed q c w ps (i + 1)
weighed-step p q c w ps i r h e s = record {
  product = e ∙ ap (λ z. z * w (get_or ps i (0, 0)).0 ^ (get_or ps i (0, 0)).1) r.product
      ∙ mul_assoc c (pairs_weight w (take i ps)) (w (get_or ps i (0, 0)).0 ^ (get_or ps i (0, 0)).1) ∙ ap (λ z. c * z) (sym (pairs-more w ps i h));
  small = s;
}

-- where the product with the next pair's power exceeds the limit, the term's weight does
pub weighed-heavy : (n p c : ℕ) (vars : List VarInfo) (ps : Pairs) (i : ℕ) → IsAbove ps (length vars) → IsWeighed p c (grown n vars) ps i
    → i < length ps → most < p * grown n vars (get_or ps i (0, 0)).0 ^ (get_or ps i (0, 0)).1 → most < c * pairs_weight (grown n vars) ps
weighed-heavy n p c vars ps i a r h q =
    let e : ℕ = grown n vars (get_or ps i (0, 0)).0 ^ (get_or ps i (0, 0)).1 in
    let x : p * e ≡ c * (pairs_weight (grown n vars) (take i ps) * e) = ap (λ z. z * e) r.product ∙ mul_assoc c (pairs_weight (grown n vars) (take i ps)) e in
    omega (arith, x, ap (λ z. c * z) (pairs-more (grown n vars) ps i h), mul-le-mul_left c (pairs-take n vars ps (i + 1) a))

-- the step of `scaled`: one factor more
pub scaled-step : (w m k p q : ℕ) → p ≡ w * m ^ k → q ≡ p * m → q ≡ w * m ^ (k + 1)
scaled-step w m k p q e f = f ∙ ap (λ t. t * m) e ∙ mul_assoc w (m ^ k) m ∙ ap (λ t. w * t) (sym (ap (λ t. m ^ t) (add-one k) ∙ pow-suc m k))

-- ---- the results of `weight`, whatever the lists are called
-- where the sum with one more term exceeds the limit, the weighted sum of all terms does
pub heavy-end : (n : ℕ) (vars' vars : List VarInfo) (f' f : Sparse) (i : ℕ) (t : Pairs × ℤ) (s : ℕ) → vars' ≡ vars
    → f' ≡ f → AreBelow (length vars) f → i < length f' → t ≡ get_or f' i t → s ≡ total_weight (grown n vars') (take i f')
    → most < s + term_weight (grown n vars') t → most < weighted_sum (grown n vars) (terms_of (length vars) f)
heavy-end n vars' vars f' f i t s p q b h e x y =
    let z : most < total_weight (grown n vars) f =
    subst (λ v. most < total_weight (grown n v) f) p (subst (λ g. most < total_weight (grown n vars') g) q (total-heavy (grown n vars') f' i t s h e x y)) in
    omega (arith, z, total-weight (grown n vars) (length vars) f b)

-- the end of the loop in `total`: the sum is the weighted sum
pub sum-end : (n : ℕ) (vars' vars : List VarInfo) (f' f : Sparse) (i s : ℕ) → vars' ≡ vars → f' ≡ f → AreBelow (length vars) f
    → length f' ≤ i → s ≡ total_weight (grown n vars') (take i f') → s ≡ weighted_sum (grown n vars) (terms_of (length vars) f)
sum-end n vars' vars f' f i s p q b h x =
    let z : s ≡ total_weight (grown n vars) f = subst (λ v. s ≡ total_weight (grown n v) f) p
    (subst (λ g. s ≡ total_weight (grown n vars') g) q (x ∙ ap (total_weight (grown n vars')) (take_all i f' h))) in
    z ∙ sym (total-weight (grown n vars) (length vars) f b)

-- ---- M and w
grown-none : (vars : List VarInfo) (v : ℕ) → grown 0 vars v ≡ sizes vars v
grown-none vars v = by_there (slice_get vars v)
  where
    by_there : (o : Option VarInfo) → grown_or 0 o ≡ size_or o
    by_there None = refl
    by_there (Some i) = omega arith

-- w of a variable is its M and 1 more
pub grown-one : (vars : List VarInfo) (v : ℕ) → grown 1 vars v ≡ weights vars v
grown-one vars v = by_there (slice_get vars v)
  where
    by_there : (o : Option VarInfo) → grown_or 1 o ≡ weight_or o
    by_there None = refl
    by_there (Some i) = omega arith

same_monomial : (u w : ℕ → ℕ) → ((v : ℕ) → u v ≡ w v) → (m : List ℕ) → monomial_weight u m ≡ monomial_weight w m
same_monomial u w h [] = refl
same_monomial u w h (n ∷ m) =
    let e = h 0 in
    let ih = same_monomial (λ v. u (suc v)) (λ v. w (suc v)) (λ v. h (suc v)) m in
    rw (e, ih) refl

-- a weighted sum over equal weights
same_sum : (u w : ℕ → ℕ) → ((v : ℕ) → u v ≡ w v) → (f : List Term) → weighted_sum u f ≡ weighted_sum w f
same_sum u w h [] = refl
same_sum u w h (t ∷ f) =
    let e = same_monomial u w h t.exponents in
    let ih = same_sum u w h f in
    rw (e, ih) refl

as_sum : (o : Option ℕ) (a b : ℕ) → a ≡ b → MatchOption o (most < a) (λ s. (s ≡ a) × (s ≤ most)) → MatchOption o (most < b) (λ s. (s ≡ b) × (s ≤ most))
as_sum o a b e h = rw e at h

-- the sum that the code has is the M-weighted sum, or the w-weighted one
pub as-sizes : (o : Option ℕ) (vars : List VarInfo) (f : List Term)
    → MatchOption o (most < weighted_sum (grown 0 vars) f) (λ s. (s ≡ weighted_sum (grown 0 vars) f) × (s ≤ most))
    → MatchOption o (most < weighted_sum (sizes vars) f) (λ s. (s ≡ weighted_sum (sizes vars) f) × (s ≤ most))
as-sizes o vars f h = as_sum o (weighted_sum (grown 0 vars) f) (weighted_sum (sizes vars) f) (same_sum (grown 0 vars) (sizes vars) (grown-none vars) f) h

-- the sum that `heft` has is the w-weighted one
pub as-weights : (o : Option ℕ) (vars : List VarInfo) (f : List Term)
    → MatchOption o (most < weighted_sum (grown 1 vars) f) (λ s. (s ≡ weighted_sum (grown 1 vars) f) × (s ≤ most))
    → MatchOption o (most < weighted_sum (weights vars) f) (λ s. (s ≡ weighted_sum (weights vars) f) × (s ≤ most))
as-weights o vars f h = as_sum o (weighted_sum (grown 1 vars) f) (weighted_sum (weights vars) f) (same_sum (grown 1 vars) (weights vars) (grown-one vars) f) h
