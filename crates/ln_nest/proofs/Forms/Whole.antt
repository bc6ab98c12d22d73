-- From a polynomial to its nested tree.
use Rattle.std.proofs.Common.{◌≡◌, ℕ, ◌+◌, ◌*◌, ◌≤◌, ◌<◌, max, All, List, [], ◌∷◌, length, refl, zero, suc, ap, arith, ◌∙◌, sym, subst}
use Rattle.std.proofs.lemmas.List.{length-map}
use Rattle.std.proofs.lemmas.List.Elements.{All-head, All-tail}
use Rattle.ln_algebra.specs.Coefficient.{normal_coefficient}
use Rattle.ln_algebra.specs.Terms.{Over, Term, factor_at}
use Rattle.ln_algebra.specs.Tree.{Pow, Tree, inlined}
use Rattle.ln_algebra.specs.Vector.{degree}
use Rattle.ln_algebra.specs.Weights.{weighted_sum}
use Rattle.ln_algebra.proofs.Expanded.Normal.{normal_is}
use Rattle.ln_tree.specs.declared.shape.VarInfo.{VarInfo}
use Rattle.ln_interval.specs.Range.{IsOrdered}
use Rattle.ln_tree.specs.Exps.{Pairs, exponent, exponents_from, vector}
use Rattle.ln_bound.specs.Light.{most}
use Rattle.ln_bound.specs.Sound.{Sound}
use Rattle.ln_bound.specs.Exact.{AreWithinPairs}
use Rattle.ln_bound.specs.Ranges.{ranges}
use Rattle.ln_bound.specs.Typed.{Typed, cost, need, polynomial, untyped}
use Rattle.ln_bound.specs.Value.{sizes}
use Rattle.ln_poly.specs.Sparse.{IsFactor, IsPoly, Sparse, coefficient_at, term_of, terms_of}
use Rattle.ln_poly.proofs.TermLists.Products.{over-terms}
use Rattle.ln_poly.proofs.Derivations.Deriving.{same-monomial}
use Rattle.ln_nest.specs.Lean.{AreLean, AreUnder, HasNoZero, largest}
use Rattle.ln_nest.specs.Nested.{by_squares, divided, exponent_of, free_of, joined, nested, power, rest_term}
use Rattle.ln_nest.specs.declared.work.Work.{Work}
use Rattle.ln_nest.specs.View.{Has, scale, terms_in}
use Rattle.ln_nest.proofs.Terms.Parts.{nested_has}
use Rattle.ln_nest.proofs.Terms.Powers.{closed_power}
use Rattle.ln_nest.proofs.Terms.Scaled.{closed_scaled}
use Rattle.ln_nest.proofs.Forms.Costs.{AllDegrees, cost_of, cost_same, need_of, need_same}
use Rattle.ln_nest.proofs.Forms.Nests.{up_sound}
use Rattle.ln_nest.proofs.Forms.Squares.{AreTerms, roomy, squares_cheap, squares_formed, squares_has, squares_is, squares_need, squares_up}
use Rattle.ln_nest.proofs.Forms.Steps.{has_as, scale_is, scale_some}

-- ---- the terms of a polynomial
-- the degrees, one after the other
terms_degrees : (n d : ℕ) (f : Sparse) → All (λ t. degree (vector n t.0) ≤ d) f → AllDegrees d (terms_of n f)
terms_degrees n d [] a = tt
terms_degrees n d (t ∷ f) a = (All-head (λ u. degree (vector n u.0) ≤ d) t f a, terms_degrees n d f (All-tail (λ u. degree (vector n u.0) ≤ d) t f a))

-- the exponent in a part of a vector
exponent-from : (v a n w : ℕ) (ps : Pairs) → w ≡ a + v → exponent_of v (exponents_from a n ps) ≤ exponent w ps
exponent-from v a zero w ps e = omega arith
exponent-from zero a (suc n) w ps e = let g : w ≡ a = omega (arith, e) in rw g (omega arith)
exponent-from (suc v) a (suc n) w ps e = exponent-from v (suc a) n w ps (omega (arith, e))

-- no exponent of a polynomial is above its largest
terms_under : (n : ℕ) (top : ℕ → ℕ) (f : Sparse) → ((v : ℕ) → largest f v ≤ top v) → AreUnder top (terms_of n f)
terms_under n top [] l = tt
terms_under n top (t ∷ f) l = (
  (λ v. let e : exponent_of v (vector n t.0) ≤ exponent v t.0 = exponent-from v 0 n v t.0 (omega arith) in let g = l v in omega (arith, e, g)),
  terms_under n top f (λ v. let g = l v in omega (arith, g)),
)

-- ---- weights that are the same up to the last variable
-- of a list
sum_same : (w u : ℕ → ℕ) (n : ℕ) (f : List Term) → Over n f → ((v : ℕ) → v < n → w v ≡ u v) → weighted_sum w f ≡ weighted_sum u f
sum_same w u n [] o h = refl
sum_same w u n (t ∷ f) o h =
    let ih = sum_same w u n f o.1 h in
    let e = same-monomial w u t.exponents (λ v l. h v (omega (arith, l, o.0))) in
    rw (e, ih) refl

-- the sum with 1 past the last variable is the sum
pub scaled_sum : (vars : List VarInfo) (f : Sparse)
    → weighted_sum (scale vars) (terms_of (length vars) f) ≡ weighted_sum (sizes vars) (terms_of (length vars) f)
scaled_sum vars f = sum_same (scale vars) (sizes vars) (length vars) (terms_of (length vars) f) (over-terms (length vars) f) (λ v l. scale_is vars v l)

-- ---- a nested tree has no lets
-- a step
joined_closed : (x h i : Tree) (p q : List Term) → inlined [] x ≡ x → inlined [] h ≡ h → inlined [] i ≡ i → inlined [] (joined x h i p q) ≡ joined x h i p q
joined_closed x h i [] q c a b = b
joined_closed x h i (t ∷ p) [] c a b = closed_scaled x h c a
joined_closed x h i (t ∷ p) (y ∷ q) c a b = rw (closed_scaled x h c a, b) refl

-- the whole
nested_closed : (d k v : ℕ) (f : List Term) → inlined [] (nested d k v f) ≡ nested d k v f
nested_closed d k v =
    nested_has (k + v) (λ f e. inlined [] e ≡ e) (λ f. refl)
    (λ v e f h i l o a b. joined_closed (power e v e) h i (divided e v f) (free_of v f) (closed_power v e e o.0 (omega (arith, o.1))) a b) d k v refl

-- ---- the whole
-- the coefficient of a polynomial is that of its terms
coefficient-is : (n : ℕ) (f : Sparse) (m : List ℕ) → coefficient_at n f m ≡ factor_at (terms_of n f) m
unfolding coefficient_at
coefficient-is n f m = refl

-- by squares neither
squares_closed : (d n k b : ℕ) → 4 ≤ b → (f : List Term) → inlined [] (by_squares d n k b f) ≡ by_squares d n k b f
squares_closed d n =
    squares_has d n (λ f e. inlined [] e ≡ e) (nested_closed d n 0)
    (λ t x l r. closed_scaled (Pow x 2) (nested d n 0 (rest_term t ∷ [])) (rw r refl) (nested_closed d n 0 (rest_term t ∷ [])))

-- the tree of a polynomial over n variables, with degrees of at most d
abbrev pub tree_of : ℕ → ℕ → Sparse → Tree
tree_of d n f = by_squares d n 7 8 (terms_of n f)

-- its terms have no factor 0
terms_some : (n : ℕ) (f : Sparse) → All (λ t. IsFactor t.1) f → HasNoZero (terms_of n f)
terms_some n [] a = tt
terms_some n (t ∷ f) a = ((All-head (λ u. IsFactor u.1) t f a).0, terms_some n f (All-tail (λ u. IsFactor u.1) t f a))

are_terms : (n d : ℕ) (f : List Term) → Over n f → AllDegrees d f → HasNoZero f → AreTerms n d f
are_terms n d [] o a z = tt
are_terms n d (t ∷ f) o a z = (record { long = o.0; low = a.0; some = z.0 }, are_terms n d f o.1 a.1 z.1)

-- the terms of a polynomial
module _ (d n : ℕ) (f : Sparse) (p : IsPoly f) (a : All (λ u. degree (vector n u.0) ≤ d) f) where
  whole_terms : AreTerms n d (terms_of n f)
  whole_terms = are_terms n d (terms_of n f) (over-terms n f) (terms_degrees n d f a) (terms_some n f p.factors)

  -- the tree has the polynomial
  pub whole_same : (t : Typed) → untyped t ≡ tree_of d n f → (m : List ℕ) → length m ≡ n → polynomial [] t m ≡ coefficient_at n f m
  whole_same t e m h =
      let c : inlined [] (untyped t) ≡ tree_of d n f = ap (inlined []) e ∙ squares_closed d n 7 8 (omega arith) (terms_of n f) in
      let i = (squares_formed n d 1 (largest f) (omega arith) 7 8 (omega arith) (terms_of n f)).inputs in
      ap (λ x. normal_coefficient x m) c
      ∙ normal_is n (tree_of d n f) i m h
      ∙ squares_is n d 7 8 (omega arith) (terms_of n f) whole_terms (over-terms n f) (terms_degrees n d f a) m h
      ∙ sym (coefficient-is n f m)

  -- it is lean
  pub whole_lean : (t : Typed) → untyped t ≡ tree_of d n f → AreLean n (max 1 (length f)) (largest f) (untyped t)
  whole_lean t e =
      let z : length (terms_of n f) ≡ length f = length-map f (term_of n) in
      let s = squares_formed n d (max 1 (length f)) (largest f) (omega arith) 7 8 (omega arith) (terms_of n f) in
      rw e (s.nodes whole_terms (terms_under n (largest f) f (λ w. omega arith)) (omega (arith, z)))

-- it is sound, and its ranges are within the weight of the polynomial
pub whole_sound : (vars : List VarInfo) (f : Sparse) (t : Typed) (b : ℕ) → length vars ≤ 168 → ((v : ℕ) → IsOrdered (ranges vars v))
    → IsPoly f → All (λ u. degree (vector (length vars) u.0) ≤ 126) f → weighted_sum (sizes vars) (terms_of (length vars) f) ≤ most
    → Has vars t (tree_of 126 (length vars) f) b → Sound vars [] t × AreWithinPairs (weighted_sum (sizes vars) (terms_of (length vars) f)) t
whole_sound vars f t b l r p a o h =
    let n = length vars in
    let g = terms_of n f in
    let k = squares_need 126 n 7 8 (omega arith) g (terms_degrees n 126 f a) in
    let e : need t ≡ need_of (tree_of 126 n f) = need_same t ∙ ap need_of h.same in
    let s = scaled_sum vars f in
    let i = (squares_formed n 126 1 (largest f) (omega arith) 7 8 (omega arith) g).inputs in
    let u = squares_up (scale vars) (λ v. scale_some vars v) 126 n 7 8 (omega arith) g (terms_some n f p.factors) in
    let x = up_sound vars (tree_of 126 n f) (weighted_sum (scale vars) g) t r (omega (arith, s, o)) u i h.same h.exact (omega (arith, l, k, e)) in
    (x.0, subst (λ m. AreWithinPairs m t) s x.1)

-- 506 operations for each term, where degrees are at most 126
few_roomy : (d : ℕ) (f : List Term) → d ≤ 126 → AllDegrees d f → roomy f ≤ 506 * length f
few_roomy d [] l a = omega arith
few_roomy d (t ∷ f) l a = let ih = few_roomy d f l a.1 in omega (arith, ih, a.0, l)

-- it is cheap
pub whole_cheap : (d n : ℕ) (f : Sparse) (t : Typed) → d ≤ 126 → All (λ u. degree (vector n u.0) ≤ d) f → untyped t ≡ tree_of d n f
    → cost t ≤ max 1 (1024 * length f)
whole_cheap d n f t l a e =
    let g = terms_of n f in
    let z : length g ≡ length f = length-map f (term_of n) in
    let c : cost t ≡ cost_of (tree_of d n f) = cost_same t ∙ ap cost_of e in
    let k = squares_cheap d n 7 8 (omega arith) g in
    let m = few_roomy d g l (terms_degrees n d f a) in
    omega (arith, z, c, k, m)

-- the same of the lists that the code has
pub whole_weight : (vs vars : List VarInfo) (g f : Sparse) (ws : List Work) → vs ≡ vars → g ≡ f → terms_in ws ≡ terms_of (length vs) g
    → weighted_sum (sizes vars) (terms_of (length vars) f) ≤ most → weighted_sum (scale vs) (terms_in ws) ≤ most
whole_weight vs vars g f ws p q e l = rw (e, p, q) (omega (arith, scaled_sum vars f, l))

-- nor have they a zero factor
pub whole_some : (vs : List VarInfo) (g f : Sparse) (ws : List Work) → g ≡ f → terms_in ws ≡ terms_of (length vs) g → IsPoly f → HasNoZero (terms_in ws)
whole_some vs g f ws q e p = rw (e, q) (terms_some (length vs) f p.factors)

-- the tree that the code built is that of the polynomial
pub whole_has : (vs vars : List VarInfo) (g f : Sparse) (ws : List Work) (t : Typed) → vs ≡ vars → g ≡ f
    → terms_in ws ≡ terms_of (length vs) g
    → Has vs t (by_squares 126 (length vs) 7 8 (terms_in ws)) (weighted_sum (scale vs) (terms_in ws))
    → Has vars t (tree_of 126 (length vars) f) (weighted_sum (sizes vars) (terms_of (length vars) f))
whole_has vs vars g f ws t p q e h =
    let a : Has vs t (tree_of 126 (length vs) g) (weighted_sum (scale vs) (terms_of (length vs) g)) = rw (← e) h in
    let b : Has vars t (tree_of 126 (length vars) f) (weighted_sum (scale vars) (terms_of (length vars) f)) = rw (p, q) at a in
    has_as vars t (tree_of 126 (length vars) f) (tree_of 126 (length vars) f) (weighted_sum (scale vars) (terms_of (length vars) f))
    (weighted_sum (sizes vars) (terms_of (length vars) f)) refl (omega (arith, scaled_sum vars f)) b
