-- The nested form has the coefficients of the list.
use Rattle.std.proofs.Common.{◌≡◌, ℕ, ℤ, ◌+◌, ◌≤◌, List, [], ◌∷◌, ◌++◌, length, refl, zero, suc, ap, arith, pos, ◌+ℤ◌, ◌*ℤ◌, ◌∙◌, sym}
use Rattle.std.proofs.lemmas.Int.{ints}
use Rattle.ln_algebra.specs.Terms.{Term, Over, factor_at}
use Rattle.ln_algebra.specs.Tree.{Tree}
use Rattle.ln_algebra.proofs.Expanded.Sums.{sum_over-append}
use Rattle.ln_algebra.proofs.Expanded.Shift.{sum_splits-within, product_is}
use Rattle.ln_algebra.proofs.Expanded.Product.{factor_at-times}
use Rattle.ln_algebra.proofs.Expanded.Expansion.{expanded, times, times_term, Over-expanded}
use Rattle.ln_nest.specs.Nested.{power_at_once, divided, free_of, joined, horner, nested, power, scaled}
use Rattle.ln_nest.proofs.Terms.Powers.{expanded_power}
use Rattle.ln_nest.proofs.Terms.Scaled.{expanded_scaled}
use Rattle.ln_nest.proofs.Terms.Parts.{HavePower, at_once_is, length-power_vector, power_vector, AllFit, AllAt, parts_sum, free_fit, divided_fit}
use Rattle.ln_nest.proofs.Terms.Parts.{divided_at, none_fit, fit_at, fit_over, constants_sum}

-- the coefficients of two lists one after the other
factor_at-append : (f g : List Term) (m : List ℕ) → factor_at (f ++ g) m ≡ factor_at f m +ℤ factor_at g m
factor_at-append f g m = sum_over-append _ f g

-- at each vector of n exponents the lists have the same coefficient
abbrev pub Same : ℕ → List Term → List Term → Type 0
Same n f g = (m : List ℕ) → length m ≡ n → factor_at f m ≡ factor_at g m

-- products with lists of the same coefficients have the same
times_same : (n : ℕ) (u f g : List Term) → Over n u → Over n f → Over n g → Same n f g → Same n (times u f) (times u g)
times_same n u f g o p q s m h =
    factor_at-times n u f o p m h
    ∙ product_is (factor_at u) (factor_at f) m
    ∙ sum_splits-within m (λ b c. factor_at u b *ℤ factor_at f c) (λ b c. factor_at u b *ℤ factor_at g c)
    (λ b c i j. ap (λ t. factor_at u b *ℤ t) (s c (j ∙ h)))
    ∙ sym (product_is (factor_at u) (factor_at g) m)
    ∙ sym (factor_at-times n u g o q m h)

-- one term, of the power e of variable v alone, over n variables, with the factor 1
abbrev pub power_terms : ℕ → ℕ → ℕ → List Term
power_terms n v e = record { exponents = power_vector n v e; factor = pos 1 } ∷ []

-- the product with that power alone, term by term
times_power : (n v e : ℕ) (f : List Term) (m : List ℕ)
    → factor_at (times (power_terms n v e) f) m ≡ factor_at (times_term (record { exponents = power_vector n v e; factor = pos 1 }) f) m
times_power n v e f m = factor_at-append (times_term (record { exponents = power_vector n v e; factor = pos 1 }) f) [] m
    ∙ (let q : (z : ℤ) → z +ℤ pos 0 ≡ z = λ z. omega (arith, ints) in q _)

module _ (n v e d : ℕ) (f : List Term) (one : 1 ≤ e) (few : e ≤ 126) (c : HavePower e v f) (a : AllFit n v d f) where
  -- the product has the coefficients of v^e times the divided terms
  product_has_same : (h : Tree) → Same n (expanded n h) (divided e v f) → (m : List ℕ) → length m ≡ n
      → factor_at (expanded n (scaled (power e v e) h)) m
      ≡ factor_at (times_term (record { exponents = power_vector n v e; factor = pos 1 }) (divided e v f)) m
  product_has_same h s m l =
      let o = fit_over n v d (divided e v f) (divided_fit n v e d f c a) in
      ap (λ z. factor_at z m) (expanded_scaled n (power e v e) h (power_vector n v e) (length-power_vector n v e)
      (expanded_power n v e e one (omega (arith, few))))
      ∙ times_same n (power_terms n v e) (expanded n h) (divided e v f) (length-power_vector n v e, tt) (Over-expanded n h) o s m l
      ∙ times_power n v e (divided e v f) m

  -- a step has the coefficients of the terms
  joined_is : (h i : Tree) (p q : List Term) → p ≡ divided e v f → q ≡ free_of v f → Same n (expanded n h) p
      → Same n (expanded n i) q → Same n (expanded n (joined (power e v e) h i p q)) f
  joined_is h i [] q r g s t m l = t m l ∙ ap (λ z. factor_at z m) g ∙ no_part (divided e v f) r (parts_sum n v e d m f c a)
    where
      no_part : (ds : List Term) → [] ≡ ds
          → factor_at (times_term (record { exponents = power_vector n v e; factor = pos 1 }) ds) m +ℤ factor_at (free_of v f) m ≡ factor_at f m
          → factor_at (free_of v f) m ≡ factor_at f m
      no_part [] r w = omega (arith, ints, w)
      no_part (x ∷ ds) r w = cc
  joined_is h i (x ∷ p) [] r g s t m l =
      let u : Same n (expanded n h) (divided e v f) = rw (← r) s in
      product_has_same h u m l ∙ no_rest (free_of v f) g (parts_sum n v e d m f c a)
    where
      no_rest : (fs : List Term) → [] ≡ fs
          → factor_at (times_term (record { exponents = power_vector n v e; factor = pos 1 }) (divided e v f)) m +ℤ factor_at fs m ≡ factor_at f m
          → factor_at (times_term (record { exponents = power_vector n v e; factor = pos 1 }) (divided e v f)) m ≡ factor_at f m
      no_rest [] r w = omega (arith, ints, w)
      no_rest (x ∷ fs) r w = cc
  joined_is h i (x ∷ p) (y ∷ q) r g s t m l =
      let w = parts_sum n v e d m f c a in
      let u : Same n (expanded n h) (divided e v f) = rw (← r) s in
      let one = product_has_same h u m l in
      let two : factor_at (expanded n i) m ≡ factor_at (free_of v f) m = t m l ∙ ap (λ z. factor_at z m) g in
      factor_at-append (expanded n (scaled (power e v e) h)) (expanded n i) m ∙ rw (one, two) w

-- by powers of v
horner_is : (n v d : ℕ) (inner : List Term → Tree) → ((g : List Term) → AllFit n (suc v) d g → Same n (expanded n (inner g)) g)
    → (b : ℕ) (f : List Term) → AllFit n v d f → AllAt v b f → Same n (expanded n (horner inner v b f)) f
horner_is n v d inner is zero f a u = is f (none_fit n v d f a u)
horner_is n v d inner is (suc b) f a u =
    let e = power_at_once v f in
    let o = at_once_is v f in
    joined_is n v e d f o.0 o.1 o.2 a (horner inner v b (divided e v f)) (inner (free_of v f)) (divided e v f) (free_of v f) refl refl
    (horner_is n v d inner is b (divided e v f) (divided_fit n v e d f o.2 a) (divided_at v e b f o.0 o.2 u))
    (is (free_of v f) (free_fit n v d f a))

-- the nested form has the coefficients of the list
pub nested_is : (n d k v : ℕ) → k + v ≡ n → (f : List Term) → AllFit n v d f → Same n (expanded n (nested d k v f)) f
nested_is n d zero v e f a = λ m h. let g : v ≡ n = omega arith in constants_sum n d m f (rw g at a)
nested_is n d (suc k) v e f a =
    let is = λ (g : List Term) (b : AllFit n (suc v) d g). nested_is n d k (suc v) (omega arith) g b in
    horner_is n v d (nested d k (suc v)) is d f a (fit_at n v d f a)
