-- The coefficients of an expression from its normal polynomial.
use Rattle.std.proofs.Common.{◌≡◌, ℕ, zero, suc, refl, sym, ◌∙◌, ap, arith, List, [], ◌∷◌, length, Bool, true, false, if◌then◌else◌}
use Rattle.std.proofs.lemmas.Int.{ints}
use Rattle.std.proofs.Math.IntN.{ℤ, pos, ◌*ℤ◌, neg_ℤ}
use Rattle.ln_algebra.proofs.Expanded.Ring.{choose_times, one_mul}
use Rattle.ln_algebra.proofs.Expanded.Sums.{sum_splits, sum_splits_is, sum_over-append}
use Rattle.ln_algebra.proofs.Deriving.Taylor.{sum_parts-same}
use Rattle.ln_algebra.proofs.Expanded.Expansion.{tau, tau-zeros, tau-unit_vector, zeros, unit_vector, expanded, negated, power_terms}
use Rattle.ln_algebra.proofs.Expanded.Expansion.{Over-expanded, Over-power_terms, shifted, shifted-negated, shifted-times}
use Rattle.ln_algebra.specs.Vector.{is_zero}
use Rattle.ln_algebra.specs.Coefficient.{constant, product, power, coefficient, Series}
use Rattle.ln_algebra.specs.Terms.{Over, Term}
use Rattle.ln_algebra.specs.Tree.{Tree, Num, Input, Name, Neg, Add, Sub, Mul, Pow, InputsBelow}

-- two sums over the splits agree where they agree on vectors of the same length
pub sum_splits-within : (a : List ℕ) (f g : List ℕ → List ℕ → ℤ) → ((b c : List ℕ) → length b ≡ length a → length c ≡ length a → f b c ≡ g b c)
    → sum_splits a f ≡ sum_splits a g
sum_splits-within [] f g h = h [] [] refl refl
sum_splits-within (n ∷ a) f g h =
    sum_parts-same n (λ i j. sum_splits a (λ b c. f (i ∷ b) (j ∷ c))) (λ i j. sum_splits a (λ b c. g (i ∷ b) (j ∷ c)))
    (λ i j. sum_splits-within a (λ b c. f (i ∷ b) (j ∷ c)) (λ b c. g (i ∷ b) (j ∷ c)) (λ b c u v. h (i ∷ b) (j ∷ c) (ap suc u) (ap suc v)))

-- a product as a sum variable by variable
pub product_is : (f g : Series) (a : List ℕ) → product f g a ≡ sum_splits a (λ b c. f b *ℤ g c)
product_is f g a = sum_splits_is a (λ b c. f b *ℤ g c)

-- products of series that agree at vectors of n exponents
pub product-same : (f g u v : Series) (n : ℕ) → ((a : List ℕ) → length a ≡ n → f a ≡ u a) → ((a : List ℕ) → length a ≡ n → g a ≡ v a)
    → (a : List ℕ) → length a ≡ n → product f g a ≡ sum_splits a (λ b c. u b *ℤ v c)
product-same f g u v n h k a e = product_is f g a
    ∙ sum_splits-within a (λ b c. f b *ℤ g c) (λ b c. u b *ℤ v c) (λ b c i j. ap (λ t. t *ℤ g c) (h b (i ∙ e)) ∙ ap (λ t. u b *ℤ t) (k c (j ∙ e)))

module _ (p : ℕ → Bool) (x : ℕ → ℤ) (n : ℕ) where
  -- a number has the coefficients of its one term
  shifted-constant : (c : ℤ) (a : List ℕ) → length a ≡ n → constant c a ≡ shifted p x a (record { exponents = zeros n; factor = c } ∷ [])
  shifted-constant c a h =
      let e : c *ℤ tau p x (zeros n) a ≡ c *ℤ (if is_zero a then pos 1 else pos 0) = ap (λ t. c *ℤ t) (tau-zeros p x n a h) in
      omega (arith, ints, e, choose_times c (is_zero a))

  -- a power those of the power of the terms
  power_is : (f : Series) (terms : List Term) → Over n terms → ((a : List ℕ) → length a ≡ n → f a ≡ shifted p x a terms)
      → (k : ℕ) (a : List ℕ) → length a ≡ n → power f k a ≡ shifted p x a (power_terms n terms k)
  power_is f terms o h zero a e = shifted-constant (pos 1) a e
  power_is f terms o h (suc k) a e =
      product-same (power f k) f (λ b. shifted p x b (power_terms n terms k)) (λ b. shifted p x b terms) n (power_is f terms o h k) h a e
      ∙ sym (shifted-times p x a (power_terms n terms k) terms (rw e (Over-power_terms n terms k o)) (rw e o))

  -- the expansion has the coefficients of the expression
  pub coefficient_is : (e : Tree) → InputsBelow n e → (a : List ℕ) → length a ≡ n → coefficient p x e a ≡ shifted p x a (expanded n e)
  coefficient_is (Num c) i a h = shifted-constant c a h
  coefficient_is (Input v) i a h = omega (arith, ints, tau-unit_vector p x n v a i h, one_mul (tau p x (unit_vector n v) a))
  coefficient_is (Name j) i a h = elim (is_zero a) as (λ b. (if b then pos 0 else pos 0) ≡ pos 0) [ true ↦ refl | false ↦ refl ]
  coefficient_is (Neg e) i a h = ap neg_ℤ (coefficient_is e i a h) ∙ sym (shifted-negated p x a (expanded n e))
  coefficient_is (Add e f) i a h =
      omega (
        arith,
        ints,
        coefficient_is e i.0 a h,
        coefficient_is f i.1 a h,
        sum_over-append (λ t. t.factor *ℤ tau p x t.exponents a) (expanded n e) (expanded n f),
      )
  coefficient_is (Sub e f) i a h =
      omega (
        arith,
        ints,
        coefficient_is e i.0 a h,
        coefficient_is f i.1 a h,
        shifted-negated p x a (expanded n f),
        sum_over-append (λ t. t.factor *ℤ tau p x t.exponents a) (expanded n e) (negated (expanded n f)),
      )
  coefficient_is (Mul e f) i a h =
      product-same (coefficient p x e) (coefficient p x f) (λ b. shifted p x b (expanded n e)) (λ b. shifted p x b (expanded n f)) n
      (coefficient_is e i.0) (coefficient_is f i.1) a h
      ∙ sym (shifted-times p x a (expanded n e) (expanded n f) (rw h (Over-expanded n e)) (rw h (Over-expanded n f)))
  coefficient_is (Pow e k) i a h = power_is (coefficient p x e) (expanded n e) (Over-expanded n e) (coefficient_is e i) k a h
