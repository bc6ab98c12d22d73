-- Scaled derivatives by several variables, one variable after the other.
use Rattle.std.proofs.Common.{◌≡◌, ℕ, ◌+◌, ◌<◌, ◌≤◌, zero, suc, List, [], ◌∷◌, ◌++◌, length, take, get_or, refl, sym, ◌∙◌, ap, subst, arith, ◌⊎◌, inl, inr}
use Rattle.std.proofs.lemmas.Bool.{cases_eq, eqb-true}
use Rattle.std.specs.Prelude.{◌==◌, Bool, true, false}
use Rattle.std.proofs.lemmas.List.{take_all, take_more}
use Rattle.ln_algebra.proofs.Vectors.Zeros.{derived-zeros}
use Rattle.ln_algebra.proofs.Bounding.Weights.{weighted-least, IsCollected-Once}
use Rattle.ln_algebra.specs.Terms.{Over, Term, derived, factor_at}
use Rattle.ln_algebra.specs.Vector.{plus}
use Rattle.ln_algebra.specs.Weights.{weighted_sum}
use Rattle.ln_tree.specs.declared.shape.VarInfo.{VarInfo}
use Rattle.ln_tree.specs.Exps.{IsAbove, IsRising, Pairs, exponent, exponents_from, vector}
use Rattle.ln_bound.specs.Light.{most}
use Rattle.ln_bound.specs.Value.{sizes, weights}
use Rattle.ln_poly.specs.Derivative.{IsDerivative, derivative}
use Rattle.ln_poly.specs.Sparse.{AreBelow, IsPoly, Sparse, coefficient_at, terms_of}
use Rattle.ln_tree.proofs.Powers.{power-apart, above-take}
use Rattle.ln_poly.proofs.Sorting.Collected.{collected}
use Rattle.ln_poly.proofs.Derivations.Combined.{AreApart, combined, everywhere, once-derived, over-derived}
use Rattle.ln_poly.proofs.Sorting.Merging.{above-none, exponent-push}
use Rattle.ln_poly.proofs.TermLists.Products.{length-vector, over-terms, vector-plus}
use Rattle.ln_poly.proofs.Derivations.Deriving.{derived-light}
use Rattle.ln_poly.proofs.Expansions.Normals.{vector-none}

-- the derivative has as many variables
pub over-vector : (n : ℕ) (a : Pairs) (x : List Term) → Over n x → Over n (derived (vector n a) x)
over-vector n a x o =
    let e : length (vector n a) ≡ n = length-vector 0 n a in
    subst (λ k. Over k (derived (vector n a) x)) e (over-derived (vector n a) x (subst (λ k. Over k x) (sym e) o))

-- ---- no variable
-- a polynomial is its own derivative by no variable
pub several-init : (n : ℕ) (f h : Sparse) → IsPoly f → AreBelow n f → h ≡ f → IsDerivative n f [] h
unfolding coefficient_at
several-init n f h p b e = record {
  form = rw e p;
  below = rw e b;
  coefficients = λ m l.
      let z : derived (vector n []) (terms_of n f) ≡ terms_of n f =
      ap (λ a. derived a (terms_of n f)) (vector-none 0 n) ∙ derived-zeros n (terms_of n f) (over-terms n f) in
      ap (λ (g : Sparse). factor_at (terms_of n g) m) e ∙ ap (λ (ts : List Term). factor_at ts m) (sym z);
}

-- ---- one variable more
-- pairs below a variable and the pair of the variable have no variable in common
apart-from : (w n v k : ℕ) (xs : Pairs) → IsAbove xs v → AreApart (exponents_from w n xs) (exponents_from w n ((v, k) ∷ []))
apart-from w zero v k xs a = tt
apart-from w (suc n) v k xs a = (by_case (cases_eq v w), apart-from (suc w) n v k xs a) where
  by_case : (v ≡ w) ⊎ (v ≡ w → ⊥) → (exponent w xs ≡ 0) ⊎ (exponent w ((v, k) ∷ []) ≡ 0)
  by_case (inl e) = inl (above-none v w xs a (omega (arith, e)))
  by_case (inr d) = inr (omega (arith, power-apart w (v, k) d))

exponent-sum : (xs : Pairs) (p : ℕ × ℕ) (u : ℕ) → exponent u (xs ++ p ∷ []) ≡ exponent u xs + exponent u (p ∷ [])
exponent-sum xs p u = omega (arith, exponent-push u xs p)

vector-more : (n : ℕ) (ps : Pairs) (i : ℕ) → i < length ps → plus (vector n (take i ps)) (vector n (get_or ps i (0, 0) ∷ [])) ≡ vector n (take (i + 1) ps)
vector-more n ps i h =
    let p : ℕ × ℕ = get_or ps i (0, 0) in
    sym (vector-plus 0 n (take i ps) (p ∷ []) (take i ps ++ p ∷ []) (exponent-sum (take i ps) p)) ∙ ap (vector n) (sym (take_more ps i (0, 0) h))

module _ (n : ℕ) (f h : Sparse) (ps : Pairs) (i : ℕ) (r : IsRising ps) (l : i < length ps) (d : IsDerivative n f (take i ps) h) where
  -- the coefficients of the next derivative
  next-coefficients : (m : List ℕ) → length m ≡ n
      → factor_at (derivative n (get_or ps i (0, 0)).0 (get_or ps i (0, 0)).1 h) m ≡ factor_at (derived (vector n (take (i + 1) ps)) (terms_of n f)) m
  unfolding coefficient_at
  next-coefficients m k =
      let p : ℕ × ℕ = get_or ps i (0, 0) in
      combined n (vector n (take i ps)) (vector n (p ∷ [])) (terms_of n f) (terms_of n h) (length-vector 0 n (take i ps))
      (length-vector 0 n (p ∷ [])) (apart-from 0 n p.0 p.1 (take i ps) (above-take ps i r l)) (over-terms n f) (over-terms n h) d.coefficients m k
      ∙ ap (λ a. factor_at (derived a (terms_of n f)) m) (vector-more n ps i l)

  -- the derivative, by the next pair, of the derivative by the first i pairs is the derivative by one pair more
  pub several-step : (g : Sparse) → IsPoly g → AreBelow n g
      → ((m : List ℕ) → coefficient_at n g m ≡ factor_at (derivative n (get_or ps i (0, 0)).0 (get_or ps i (0, 0)).1 h) m)
      → IsDerivative n f (take (i + 1) ps) g
  several-step g p b c = record { form = p; below = b; coefficients = λ m k. c m ∙ next-coefficients m k }

  -- it weighs no more than that of the whole
  next-weight : (w : ℕ → ℕ)
      → weighted_sum w (derivative n (get_or ps i (0, 0)).0 (get_or ps i (0, 0)).1 h) ≤ weighted_sum w (derived (vector n (take (i + 1) ps)) (terms_of n f))
  next-weight w =
      let p : ℕ × ℕ = get_or ps i (0, 0) in
      let a : List ℕ = vector n (p ∷ []) in
      let e : length (vector n (p ∷ [])) ≡ n = length-vector 0 n (p ∷ []) in
      let o : Over (length (vector n (p ∷ []))) (terms_of n h) = subst (λ k. Over k (terms_of n h)) (sym e) (over-terms n h) in
      weighted-least w (derivative n p.0 p.1 h) (derived (vector n (take (i + 1) ps)) (terms_of n f))
      (once-derived (vector n (p ∷ [])) (terms_of n h) o (IsCollected-Once (terms_of n h) (collected n h d.form d.below)))
      (everywhere n (derivative n p.0 p.1 h) (derived (vector n (take (i + 1) ps)) (terms_of n f))
      (over-vector n (p ∷ []) (terms_of n h) (over-terms n h)) (over-vector n (take (i + 1) ps) (terms_of n f) (over-terms n f)) next-coefficients)

-- ---- weights
-- where f weighs at most 2^127 - 1, so does its derivative by one pair more, with the sizes as weights of the variables
pub several-light : (vars : List VarInfo) (f h : Sparse) (ps : Pairs) (i : ℕ) → IsRising ps → i < length ps
    → IsDerivative (length vars) f (take i ps) h → weighted_sum (weights vars) (terms_of (length vars) f) ≤ most
    → weighted_sum (sizes vars) (derivative (length vars) (get_or ps i (0, 0)).0 (get_or ps i (0, 0)).1 h) ≤ most
several-light vars f h ps i r l d w =
    omega (arith, next-weight (length vars) f h ps i r l d (sizes vars), derived-light vars (vector (length vars) (take (i + 1) ps)) f w)

-- the end of the loop in `derive_by`: the derivative is by all pairs
pub several-end : (n : ℕ) (f h : Sparse) (ps a : Pairs) (i : ℕ) → length ps ≤ i → ps ≡ a → IsDerivative n f (take i ps) h → IsDerivative n f a h
several-end n f h ps a i l e d = subst (λ (q : Pairs). IsDerivative n f q h) (take_all i ps l ∙ e) d

-- ---- the first variable
-- where f weighs at most 2^127 - 1, so does its derivative by the first pair, with the sizes as weights of the variables
pub first-light : (vars : List VarInfo) (f : Sparse) (ps : Pairs) → IsPoly f → AreBelow (length vars) f → IsRising ps → 0 < length ps
    → weighted_sum (weights vars) (terms_of (length vars) f) ≤ most
    → weighted_sum (sizes vars) (derivative (length vars) (get_or ps 0 (0, 0)).0 (get_or ps 0 (0, 0)).1 f) ≤ most
first-light vars f ps p b r l w = several-light vars f f ps 0 r l (several-init (length vars) f f p b refl) w

-- the derivative with which the loop in `derive_by` begins is that by the first pair
pub first-step : (n : ℕ) (f g : Sparse) (ps : Pairs) → IsPoly f → AreBelow n f → IsRising ps → 0 < length ps → IsPoly g → AreBelow n g
    → ((m : List ℕ) → coefficient_at n g m ≡ factor_at (derivative n (get_or ps 0 (0, 0)).0 (get_or ps 0 (0, 0)).1 f) m) → IsDerivative n f (take 1 ps) g
first-step n f g ps p b r l q c e = several-step n f f ps 0 r l (several-init n f f p b refl) g q c e

-- without a variable
pub none-derived : (n : ℕ) (f h : Sparse) (ps a : Pairs) → IsPoly f → AreBelow n f → h ≡ f → length ps ≡ 0 → ps ≡ a → IsDerivative n f a h
none-derived n f h ps a p b e l q = several-end n f h ps a 0 (omega (arith, l)) q (several-init n f h p b e)

-- ---- is there a variable?
-- a length that is 0 by the test is 0
pub no-length : (n : ℕ) (b : Bool) → b ≡ (n == 0) → b ≡ true → n ≡ 0
no-length n b e t = eqb-true n 0 (sym e ∙ t)

-- a length that isn't 0 by the test is above 0
pub some-length : (n : ℕ) (b : Bool) → b ≡ (n == 0) → b ≡ false → 0 < n
some-length zero b e f = let t : true ≡ false = sym e ∙ f in cc
some-length (suc n) b e f = omega arith
