-- The weighted sum of the normal polynomial is at most the weight of the expression.
use Rattle.std.proofs.Common.{◌≡◌, ℕ, ◌+◌, ◌*◌, ◌^◌, ◌<◌, ◌≤◌, zero, suc, refl, sym, ◌∙◌, ap, arith, List, [], ◌∷◌, ◌++◌, length, Bool}
use Rattle.std.proofs.Common.{true, false, if◌then◌else◌, unsigned_abs, ◌⊎◌, inl, inr}
use Rattle.std.proofs.Math.Nat.{pow-zero, pow-suc, mul-le-mul_left}
use Rattle.std.proofs.lemmas.Nat.{pow-add}
use Rattle.std.proofs.lemmas.Bool.{cases_eq}
use Rattle.std.proofs.lemmas.Int.{ints, unsigned_abs-mul}
use Rattle.std.proofs.Math.IntN.{ℤ, pos, ◌+ℤ◌, ◌*ℤ◌, neg_ℤ}
use Rattle.ln_algebra.proofs.Expanded.Expansion.{zeros, unit_vector, expanded, times, times_term, negated, power_terms, Over-expanded, Over-power_terms}
use Rattle.ln_algebra.proofs.Deriving.Derived.{factor_at-length}
use Rattle.ln_algebra.proofs.Expanded.Normal.{normal_is, without, without-same, without-other, same_vector-is, same_vector-refl}
use Rattle.ln_algebra.specs.Vector.{plus}
use Rattle.ln_algebra.specs.Terms.{IsCollected, IsNormalOf, Lacks, Over, Term, factor_at, same_vector}
use Rattle.ln_algebra.specs.Tree.{Tree, Num, Input, Name, Neg, Add, Sub, Mul, Pow, InputsBelow}
use Rattle.ln_algebra.specs.Weights.{weight, monomial_weight, weighted_sum}

-- ---- the weights of the expansion
-- four factors in another order
pub four_ℕ : (a b c d p q : ℕ) → p ≡ a * b → q ≡ c * d → p * q ≡ (a * c) * (b * d)
four_ℕ a b c d p q e f = rw (e, f) (omega arith)

-- the weight of a product of monomials is the product
pub monomial_weight-plus : (w : ℕ → ℕ) (a b : List ℕ) → length a ≡ length b → monomial_weight w (plus a b) ≡ monomial_weight w a * monomial_weight w b
monomial_weight-plus w [] [] h = refl
monomial_weight-plus w [] (k ∷ b) h = absurd (omega arith)
monomial_weight-plus w (n ∷ a) [] h = absurd (omega arith)
monomial_weight-plus w (n ∷ a) (k ∷ b) h =
    let v : ℕ → ℕ = λ u. w (suc u) in
    four_ℕ (w 0 ^ n) (w 0 ^ k) (monomial_weight v a) (monomial_weight v b) (w 0 ^ (n + k)) (monomial_weight v (plus a b))
    (pow-add (w 0) n k) (monomial_weight-plus v a b (omega arith))

-- the monomial 1 has weight 1
monomial_weight-zeros : (w : ℕ → ℕ) (n : ℕ) → monomial_weight w (zeros n) ≡ 1
monomial_weight-zeros w zero = refl
monomial_weight-zeros w (suc n) = rw pow-zero (omega (arith, monomial_weight-zeros (λ v. w (suc v)) n))

-- the monomial of a variable has its weight
monomial_weight-unit : (w : ℕ → ℕ) (n v : ℕ) → v < n → monomial_weight w (unit_vector n v) ≡ w v
monomial_weight-unit w zero v h = absurd (omega arith)
monomial_weight-unit w (suc n) zero h =
    let e : w 0 ^ 1 ≡ w 0 ^ 0 * w 0 = pow-suc (w 0) 0 in
    rw monomial_weight-zeros (omega (arith, e, ap (λ z. z * w 0) (pow-zero (w 0))))
monomial_weight-unit w (suc n) (suc v) h = rw pow-zero (omega (arith, monomial_weight-unit (λ u. w (suc u)) n v (omega arith)))

-- the sign doesn't count
abs_neg : (z : ℤ) → unsigned_abs (neg_ℤ z) ≡ unsigned_abs z
abs_neg z = omega (arith, ints)

-- the weighted sum of two lists
weighted-append : (w : ℕ → ℕ) (f g : List Term) → weighted_sum w (f ++ g) ≡ weighted_sum w f + weighted_sum w g
weighted-append w [] g = omega arith
weighted-append w (t ∷ f) g = omega (arith, weighted-append w f g)

-- of the other sign
weighted-negated : (w : ℕ → ℕ) (f : List Term) → weighted_sum w (negated f) ≡ weighted_sum w f
weighted-negated w [] = refl
weighted-negated w (t ∷ f) = omega (arith, weighted-negated w f, ap (λ z. z * monomial_weight w t.exponents) (abs_neg t.factor))

-- of a product with a term
weighted-times_term : (w : ℕ → ℕ) (n : ℕ) (t : Term) (g : List Term) → length t.exponents ≡ n → Over n g
    → weighted_sum w (times_term t g) ≡ (unsigned_abs t.factor * monomial_weight w t.exponents) * weighted_sum w g
weighted-times_term w n t [] e o = omega arith
weighted-times_term w n t (s ∷ g) e o =
    let one : unsigned_abs (t.factor *ℤ s.factor) * monomial_weight w (plus t.exponents s.exponents)
    ≡ (unsigned_abs t.factor * monomial_weight w t.exponents) * (unsigned_abs s.factor * monomial_weight w s.exponents) =
    four_ℕ (unsigned_abs t.factor) (unsigned_abs s.factor) (monomial_weight w t.exponents) (monomial_weight w s.exponents)
    (unsigned_abs (t.factor *ℤ s.factor)) (monomial_weight w (plus t.exponents s.exponents)) (unsigned_abs-mul t.factor s.factor)
    (monomial_weight-plus w t.exponents s.exponents (e ∙ sym o.0)) in
    omega (arith, one, weighted-times_term w n t g e o.1)

-- of a product
weighted-times : (w : ℕ → ℕ) (n : ℕ) (f g : List Term) → Over n f → Over n g → weighted_sum w (times f g) ≡ weighted_sum w f * weighted_sum w g
weighted-times w n [] g o p = omega arith
weighted-times w n (t ∷ f) g o p =
    omega (arith, weighted-append w (times_term t g) (times f g), weighted-times_term w n t g o.0 p, weighted-times w n f g o.1 p)

-- of a power
weighted-power : (w : ℕ → ℕ) (n : ℕ) (f : List Term) → Over n f → (k : ℕ) → weighted_sum w (power_terms n f k) ≡ weighted_sum w f ^ k
weighted-power w n f o zero = rw (monomial_weight-zeros, pow-zero) refl
weighted-power w n f o (suc k) = weighted-times w n (power_terms n f k) f (Over-power_terms n f k o) o
    ∙ ap (λ z. z * weighted_sum w f) (weighted-power w n f o k) ∙ sym (pow-suc (weighted_sum w f) k)

-- the expansion weighs what the expression does
pub weighted-expanded : (w : ℕ → ℕ) (n : ℕ) (e : Tree) → InputsBelow n e → weighted_sum w (expanded n e) ≡ weight w e
weighted-expanded w n (Num c) i = rw monomial_weight-zeros (omega arith)
weighted-expanded w n (Input v) i = omega (arith, monomial_weight-unit w n v i)
weighted-expanded w n (Name j) i = refl
weighted-expanded w n (Neg e) i = weighted-negated w (expanded n e) ∙ weighted-expanded w n e i
weighted-expanded w n (Add e f) i = omega (arith, weighted-append w (expanded n e) (expanded n f), weighted-expanded w n e i.0, weighted-expanded w n f i.1)
weighted-expanded w n (Sub e f) i = omega (
  arith,
  weighted-append w (expanded n e) (negated (expanded n f)),
  weighted-negated w (expanded n f),
  weighted-expanded w n e i.0,
  weighted-expanded w n f i.1,
)
weighted-expanded w n (Mul e f) i = weighted-times w n (expanded n e) (expanded n f) (Over-expanded n e) (Over-expanded n f)
    ∙ ap (λ z. z * weighted_sum w (expanded n f)) (weighted-expanded w n e i.0) ∙ ap (λ z. weight w e * z) (weighted-expanded w n f i.1)
weighted-expanded w n (Pow e k) i = weighted-power w n (expanded n e) (Over-expanded n e) k ∙ ap (λ z. z ^ k) (weighted-expanded w n e i)

-- ---- a list in which each vector occurs once has the least weighted sum
-- no two terms have the same exponents, said by coefficients
abbrev pub Once : List Term → Type 0
Once [] = Unit {0}
Once (t ∷ f) = (factor_at f t.exponents ≡ pos 0) × ((k : List ℕ) → same_vector t.exponents k ≡ true → factor_at f k ≡ pos 0) × Once f

-- one term more, by its vector
weighted-without-by : (w : ℕ → ℕ) (m : List ℕ) (t : Term) (g : List Term) (b : Bool) → same_vector t.exponents m ≡ b
    → unsigned_abs (factor_at g m) * monomial_weight w m + weighted_sum w (without m g) ≤ weighted_sum w g
    → unsigned_abs (factor_at (t ∷ g) m) * monomial_weight w m + weighted_sum w (without m (t ∷ g)) ≤ weighted_sum w (t ∷ g)
weighted-without-by w m t g true e ih =
    let abs : unsigned_abs (t.factor +ℤ factor_at g m) ≤ unsigned_abs t.factor + unsigned_abs (factor_at g m) = omega (arith, ints) in
    let q : unsigned_abs t.factor * monomial_weight w t.exponents ≡ unsigned_abs t.factor * monomial_weight w m =
    ap (λ z. unsigned_abs t.factor * monomial_weight w z) (same_vector-is t.exponents m e) in
    rw e (omega (arith, ih, q, mul-le-mul_left (monomial_weight w m) abs))
weighted-without-by w m t g false e ih =
    let z : pos 0 +ℤ factor_at g m ≡ factor_at g m = omega (arith, ints) in
    rw e (rw z (omega (arith, ih)))

-- collecting the terms of one vector adds no weight
weighted-without : (w : ℕ → ℕ) (m : List ℕ) (g : List Term)
    → unsigned_abs (factor_at g m) * monomial_weight w m + weighted_sum w (without m g) ≤ weighted_sum w g
weighted-without w m [] = omega arith
weighted-without w m (t ∷ g) = weighted-without-by w m t g (same_vector t.exponents m) refl (weighted-without w m g)

-- a collected list weighs at most what another with the same coefficients does
pub weighted-least : (w : ℕ → ℕ) (f g : List Term) → Once f → ((k : List ℕ) → factor_at f k ≡ factor_at g k) → weighted_sum w f ≤ weighted_sum w g
weighted-least w [] g o h = omega arith
weighted-least w (t ∷ f) g o h =
    let m : List ℕ = t.exponents in
    let here : t.factor ≡ factor_at g m = omega (arith, ints, h m, o.0, at_self t.factor (same_vector m m) (same_vector-refl m)) in
    let abs : unsigned_abs t.factor * monomial_weight w m ≡ unsigned_abs (factor_at g m) * monomial_weight w m =
    ap (λ z. unsigned_abs z * monomial_weight w m) here in
    omega (arith, abs, weighted-without w m g, weighted-least w f (without m g) o.2 (λ k. by_case k (same_vector m k) refl)) where
      at_self : (c : ℤ) (b : Bool) → b ≡ true → (if b then c else pos 0) ≡ c
      at_self c b e = rw e refl

      by_case : (k : List ℕ) (b : Bool) → same_vector t.exponents k ≡ b → factor_at f k ≡ factor_at (without t.exponents g) k
      by_case k true e = o.1 k e ∙ sym (without-same t.exponents g) ∙ ap (factor_at (without t.exponents g)) (same_vector-is t.exponents k e)
      by_case k false e =
          let q : (if same_vector t.exponents k then t.factor else pos 0) +ℤ factor_at f k ≡ factor_at g k = h k in
          (let z : factor_at f k ≡ pos 0 +ℤ factor_at f k = omega (arith, ints) in z) ∙ (rw e at q) ∙ sym (without-other t.exponents k g e)

-- ---- the normal polynomial weighs at most the tree
-- where no term has the exponents the coefficient is 0
pub Lacks-factor_at : (f : List Term) (m : List ℕ) → Lacks f m → factor_at f m ≡ pos 0
Lacks-factor_at [] m l = refl
Lacks-factor_at (t ∷ f) m l = rw l.0 (omega (arith, ints, Lacks-factor_at f m l.1))

-- collected, said by coefficients
pub IsCollected-Once : (f : List Term) → IsCollected f → Once f
IsCollected-Once [] c = tt
IsCollected-Once (t ∷ f) c = (
  Lacks-factor_at f t.exponents c.0,
  λ k e. ap (factor_at f) (sym (same_vector-is t.exponents k e)) ∙ Lacks-factor_at f t.exponents c.0,
  IsCollected-Once f c.1,
)

-- so the normal polynomial weighs at most the expression
pub weighted-normal : (n : ℕ) (e : Tree) (f : List Term) (w : ℕ → ℕ) → InputsBelow n e → IsNormalOf n e f → IsCollected f → weighted_sum w f ≤ weight w e
weighted-normal n e f w i h c =
    let l : weighted_sum w f ≤ weighted_sum w (expanded n e) =
    weighted-least w f (expanded n e) (IsCollected-Once f c) (λ k. by_length k (cases_eq (length k) n)) in
    omega (arith, l, weighted-expanded w n e i) where
      by_length : (k : List ℕ) → (length k ≡ n) ⊎ (length k ≡ n → ⊥) → factor_at f k ≡ factor_at (expanded n e) k
      by_length k (inl q) = h.coefficients k q ∙ normal_is n e i k q
      by_length k (inr d) = factor_at-length n f k h.over d ∙ sym (factor_at-length n (expanded n e) k (Over-expanded n e) d)
