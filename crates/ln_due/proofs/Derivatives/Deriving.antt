-- What a scaled derivative by several variables is: its terms, their number, weight and degrees.
use Rattle.std.proofs.Common.{◌≡◌, ℕ, ◌≤◌, Bool, true, false, cond, List, [], ◌∷◌, length, refl, ap, subst, arith, if◌then◌else◌}
use Rattle.std.specs.Prelude.{All}
use Rattle.std.proofs.Math.IntN.{pos, ◌*ℤ◌}
use Rattle.std.proofs.lemmas.List.{length-map}
use Rattle.std.proofs.lemmas.List.Elements.{All-cons, All-head, All-nil, All-tail}
use Rattle.std.proofs.lemmas.List.Sums.{sum_by-cons}
use Rattle.ln_algebra.proofs.Bounding.Weights.{weighted-least, IsCollected-Once}
use Rattle.ln_algebra.specs.Terms.{Over, Term, binomials, covers, derived, factor_at, minus}
use Rattle.ln_algebra.specs.Vector.{degree, total_degree}
use Rattle.ln_algebra.specs.Weights.{weighted_sum}
use Rattle.ln_tree.specs.declared.shape.VarInfo.{VarInfo}
use Rattle.ln_tree.specs.Exps.{Pairs, vector}
use Rattle.ln_bound.specs.Light.{most}
use Rattle.ln_bound.specs.Value.{sizes, weights}
use Rattle.ln_poly.specs.Derivative.{IsDerivative}
use Rattle.ln_poly.specs.Sparse.{IsFactor, Sparse, coefficient_at, term_of, terms_of}
use Rattle.ln_poly.proofs.Sorting.Collected.{collected}
use Rattle.ln_poly.proofs.Derivations.Combined.{everywhere}
use Rattle.ln_poly.proofs.Derivations.Deriving.{derived-light}
use Rattle.ln_poly.proofs.TermLists.Products.{over-terms}
use Rattle.ln_poly.proofs.Derivations.Several.{over-vector}
use Rattle.ln_poly.specs.Derivative.{covering}
use Rattle.ln_poly.specs.Lean.{HasNoZero}
use Rattle.ln_poly.proofs.TermLists.Fewest.{EachHas, each-has, shortest}

-- it has a term for each that covers a
pub length-derived : (n : ℕ) (f : Sparse) (a : List ℕ) → length (derived a (terms_of n f)) ≡ covering n f a
length-derived n [] a = refl
length-derived n (t ∷ f) a = by_case (covers (vector n t.0) a) refl (length-derived n f a) where
  ones : Bool → ℕ
  ones x = cond x 1 0

  by_case : (b : Bool) → covers (vector n t.0) a ≡ b → length (derived a (terms_of n f)) ≡ covering n f a
      → length (if b then (record {
        exponents = minus (vector n t.0) a;
        factor = t.1 *ℤ pos (binomials (vector n t.0) a);
      } ∷ derived a (terms_of n f)) else derived a (terms_of n f)) ≡ covering n (t ∷ f) a
  by_case true q ih = omega (arith, ih, sum_by-cons (λ u. cond (covers (vector n u.0) a) 1 0) t f, ap ones q)
  by_case false q ih = omega (arith, ih, sum_by-cons (λ u. cond (covers (vector n u.0) a) 1 0) t f, ap ones q)

degree-minus : (m a : List ℕ) → total_degree (minus m a) ≤ total_degree m
degree-minus [] a = omega arith
degree-minus (k ∷ m) [] = omega arith
degree-minus (k ∷ m) (j ∷ a) = omega (arith, degree-minus m a)

degrees-derived : (k : ℕ) (a : List ℕ) (f : List Term) → EachHas (λ m. total_degree m ≤ k) f → EachHas (λ m. total_degree m ≤ k) (derived a f)
degrees-derived k a [] h = tt
degrees-derived k a (t ∷ f) h = by_case (covers t.exponents a) (degrees-derived k a f h.1) where
  by_case : (b : Bool) → EachHas (λ m. total_degree m ≤ k) (derived a f) → EachHas (λ m. total_degree m ≤ k) (if b then (record {
    exponents = minus t.exponents a;
    factor = t.factor *ℤ pos (binomials t.exponents a);
  } ∷ derived a f) else derived a f)
  by_case true r = (omega (arith, h.0, degree-minus t.exponents a), r)
  by_case false r = r

module _ (n : ℕ) (f h : Sparse) (a : Pairs) (d : IsDerivative n f a h) where
  over-whole : Over n (derived (vector n a) (terms_of n f))
  over-whole = over-vector n a (terms_of n f) (over-terms n f)

  same : (m : List ℕ) → factor_at (terms_of n h) m ≡ factor_at (derived (vector n a) (terms_of n f)) m
  unfolding coefficient_at
  same m = everywhere n (terms_of n h) (derived (vector n a) (terms_of n f)) (over-terms n h) over-whole d.coefficients m

  -- where the sum of f weighted by one more than each variable's size is at most 2^127 - 1, so is the derivative's weighted by the sizes
  pub derivative-light : (vars : List VarInfo) → length vars ≡ n → weighted_sum (weights vars) (terms_of n f) ≤ most
      → weighted_sum (sizes vars) (terms_of n h) ≤ most
  derivative-light vars e w =
      let l : weighted_sum (sizes vars) (terms_of n h) ≤ weighted_sum (sizes vars) (derived (vector n a) (terms_of n f)) =
      weighted-least (sizes vars) (terms_of n h) (derived (vector n a) (terms_of n f)) (IsCollected-Once (terms_of n h) (collected n h d.form d.below)) same in
      let k : weighted_sum (sizes vars) (derived (vector n a) (terms_of n f)) ≤ most = light-over vars n e (vector n a) f w in
      omega (arith, l, k) where
        light-over : (vs : List VarInfo) (k : ℕ) → length vs ≡ k → (b : List ℕ) (g : Sparse)
            → weighted_sum (weights vs) (terms_of k g) ≤ most → weighted_sum (sizes vs) (derived b (terms_of k g)) ≤ most
        light-over vs k q b g =
            subst (λ j. weighted_sum (weights vs) (terms_of j g) ≤ most → weighted_sum (sizes vs) (derived b (terms_of j g)) ≤ most) q (derived-light vs b g)

  no-zero : HasNoZero (terms_of n h)
  no-zero = go h d.form.factors where
    go : (g : Sparse) → All (λ t. IsFactor t.1) g → HasNoZero (terms_of n g)
    go [] z = tt
    go (t ∷ g) z = ((All-head (λ y. IsFactor y.1) t g z).0, go g (All-tail (λ y. IsFactor y.1) t g z))

  -- the derivative has at most as many terms as f has terms that cover a
  pub derivative-few : length h ≤ covering n f (vector n a)
  derivative-few =
      let s : length (terms_of n h) ≤ length (derived (vector n a) (terms_of n f)) =
      shortest (terms_of n h) (derived (vector n a) (terms_of n f)) (IsCollected-Once (terms_of n h) (collected n h d.form d.below)) no-zero same in
      omega (arith, s, length-map h (term_of n), length-derived n f (vector n a))

  -- where each term of f has a total degree of at most k, so has each term of the derivative
  pub derivative-degrees : (k : ℕ) → All (λ t. total_degree (vector n t.0) ≤ k) f → All (λ t. degree (vector n t.0) ≤ k) h
  derivative-degrees k z =
      back h (each-has (λ m. total_degree m ≤ k) (terms_of n h) (derived (vector n a) (terms_of n f))
      (IsCollected-Once (terms_of n h) (collected n h d.form d.below)) no-zero same (degrees-derived k (vector n a) (terms_of n f) (there f z)))
    where
      there : (g : Sparse) → All (λ t. total_degree (vector n t.0) ≤ k) g → EachHas (λ m. total_degree m ≤ k) (terms_of n g)
      there [] y = tt
      there (t ∷ g) y = (All-head (λ u. total_degree (vector n u.0) ≤ k) t g y, there g (All-tail (λ u. total_degree (vector n u.0) ≤ k) t g y))

      back : (g : Sparse) → EachHas (λ m. total_degree m ≤ k) (terms_of n g) → All (λ t. degree (vector n t.0) ≤ k) g
      back [] y = All-nil (λ t. degree (vector n t.0) ≤ k)
      back (t ∷ g) y = All-cons (λ u. degree (vector n u.0) ≤ k) t g y.0 (back g y.1)
