-- The derivatives together weigh what the polynomial weighs one step further out.
use Rattle.std.proofs.Common.{◌≡◌, ℕ, ◌+◌, ◌*◌, ◌^◌, ◌≤◌, zero, suc, refl, sym, ◌∙◌, ap, arith, List, [], ◌∷◌, length, Bool, true, false, unsigned_abs}
use Rattle.std.proofs.Math.Nat.{pow-zero, pow-suc}
use Rattle.std.proofs.lemmas.Int.{ints, unsigned_abs-mul}
use Rattle.std.proofs.lemmas.Bool.Decides.{nat_tests}
use Rattle.std.proofs.lemmas.Grind.{common_steps}
use Rattle.std.proofs.Math.IntN.{ℤ, pos, ◌+ℤ◌, ◌*ℤ◌}
use Rattle.ln_algebra.proofs.Expanded.Ring.{mul_add, mul_comm, mul_one}
use Rattle.ln_algebra.proofs.Expanded.Sums.{sum_over-map, sum_parts, sum_splits, sum_splits_is}
use Rattle.ln_algebra.proofs.Deriving.Taylor.{taylor, sum_parts-same, sum_parts-add, sum_parts-scale, sum_parts-zero, sum_splits-same}
use Rattle.ln_algebra.proofs.Deriving.Taylor.{sum_splits-add, sum_splits-scale, sum_splits-zero}
use Rattle.ln_algebra.proofs.Expanded.Expansion.{tau, shifted}
use Rattle.ln_algebra.proofs.Expanded.Shift.{sum_splits-within}
use Rattle.ln_algebra.proofs.Expanded.Normal.{everywhere, within_all}
use Rattle.ln_algebra.proofs.Deriving.Derived.{value-derived}
use Rattle.ln_algebra.specs.Terms.{Over, Term, covers, derived, binomials, monomial, power_of, value}
use Rattle.ln_algebra.specs.WeightLaw.{CoversEach}
use Rattle.ln_algebra.specs.Vector.{covered_by, splits, sum_over}
use Rattle.ln_algebra.specs.Weights.{monomial_weight, weighted_sum}

-- all powers of e together are the value at e = 1
taylor-sum : (x : ℤ) (n b : ℕ) → n ≤ b → sum_parts b (λ k l. taylor x n k) ≡ power_of (x +ℤ pos 1) n
taylor-sum x zero zero h = refl
taylor-sum x zero (suc b) h = omega (arith, ints, sum_parts-zero b)
taylor-sum x (suc n) zero h = absurd (omega arith)
taylor-sum x (suc n) (suc b) h =
    let P : ℤ = power_of (x +ℤ pos 1) n in
    let upper : ℤ = sum_parts b (λ k l. taylor x n (suc k)) in
    let whole : taylor x n 0 +ℤ upper ≡ P = taylor-sum x n (suc b) (omega arith) in
    let lower : sum_parts b (λ k l. taylor x n k) ≡ P = taylor-sum x n b (omega arith) in
    let split : sum_parts b (λ k l. x *ℤ taylor x n (suc k) +ℤ taylor x n k) ≡ x *ℤ upper +ℤ P =
    sum_parts-add b (λ k l. x *ℤ taylor x n (suc k)) (λ k l. taylor x n k)
    ∙ ap (λ z. z +ℤ sum_parts b (λ k l. taylor x n k)) (sum_parts-scale b x (λ k l. taylor x n (suc k))) ∙ ap (λ z. x *ℤ upper +ℤ z) lower in
    let spread : (x +ℤ pos 1) *ℤ P ≡ x *ℤ P +ℤ P = omega (arith, ints, mul_comm (x +ℤ pos 1) P, mul_add P x (pos 1), mul_comm P x, mul_one P) in
    omega (arith, ints, split, spread, mul_add x (taylor x n 0) upper, ap (λ z. x *ℤ z) whole)

-- the same for a monomial
tau-sum : (x : ℕ → ℤ) (m bound : List ℕ) → length m ≡ length bound → covers bound m ≡ true
    → sum_splits bound (λ a c. tau everywhere x m a) ≡ monomial (λ v. x v +ℤ pos 1) m
tau-sum x [] [] e h = refl
tau-sum x [] (b ∷ bound) e h = absurd (omega arith)
tau-sum x (n ∷ m) [] e h = absurd (omega arith)
tau-sum x (n ∷ m) (b ∷ bound) e h =
    let l : n ≤ b = grind (arith, nat_tests, common_steps) in
    let r : covers bound m ≡ true = grind (arith, nat_tests, common_steps) in
    let y : ℕ → ℤ = λ v. x (suc v) in
    let M : ℤ = monomial (λ v. y v +ℤ pos 1) m in
    sum_parts-same b (λ i j. sum_splits bound (λ a c. taylor (x 0) n i *ℤ tau everywhere y m a)) (λ i j. M *ℤ taylor (x 0) n i)
    (λ i j. sum_splits-scale bound (taylor (x 0) n i) (λ a c. tau everywhere y m a)
    ∙ ap (λ z. taylor (x 0) n i *ℤ z) (tau-sum y m bound (omega arith) r) ∙ mul_comm (taylor (x 0) n i) M)
    ∙ sum_parts-scale b M (λ i j. taylor (x 0) n i)
    ∙ ap (λ z. M *ℤ z) (taylor-sum (x 0) n b l)
    ∙ mul_comm M (power_of (x 0 +ℤ pos 1) n)

-- and for a list of terms
shifted-sum : (x : ℕ → ℤ) (bound : List ℕ) (f : List Term) → Over (length bound) f → CoversEach bound f
    → sum_splits bound (λ a c. shifted everywhere x a f) ≡ value (λ v. x v +ℤ pos 1) f
shifted-sum x bound [] o h = sum_splits-zero bound
shifted-sum x bound (t ∷ f) o h =
    sum_splits-add bound (λ a c. t.factor *ℤ tau everywhere x t.exponents a) (λ a c. shifted everywhere x a f)
    ∙ ap (λ z. z +ℤ sum_splits bound (λ a c. shifted everywhere x a f))
    (sum_splits-scale bound t.factor (λ a c. tau everywhere x t.exponents a) ∙ ap (λ z. t.factor *ℤ z) (tau-sum x t.exponents bound o.0 h.0))
    ∙ ap (λ z. t.factor *ℤ monomial (λ v. x v +ℤ pos 1) t.exponents +ℤ z) (shifted-sum x bound f o.1 h.1)

-- the values of all derivatives at x add up to the value at x + 1
pub derived-sum : (x : ℕ → ℤ) (bound : List ℕ) (f : List Term) → Over (length bound) f → CoversEach bound f
    → sum_splits bound (λ a c. value x (derived a f)) ≡ value (λ v. x v +ℤ pos 1) f
derived-sum x bound f o h =
    sum_splits-within bound (λ a c. value x (derived a f)) (λ a c. shifted everywhere x a f) (λ a c i j. value-derived everywhere x a f (rw i o) (within_all a))
    ∙ shifted-sum x bound f o h

-- ---- the same for absolute coefficients
-- each factor without its sign
abbrev pub absolute : List Term → List Term
absolute [] = []
absolute (t ∷ f) = record { exponents = t.exponents; factor = pos (unsigned_abs t.factor) } ∷ absolute f

-- powers of numbers that aren't negative
power_pos : (w n : ℕ) → power_of (pos w) n ≡ pos (w ^ n)
power_pos w zero = rw pow-zero refl
power_pos w (suc n) = ap (λ z. pos w *ℤ z) (power_pos w n) ∙ ap pos (let e : w * w ^ n ≡ w ^ n * w = omega arith in e ∙ sym (pow-suc w n))

-- and monomials
monomial_pos : (w : ℕ → ℕ) (m : List ℕ) → monomial (λ v. pos (w v)) m ≡ pos (monomial_weight w m)
monomial_pos w [] = refl
monomial_pos w (n ∷ m) = rw (power_pos (w 0) n, monomial_pos (λ v. w (suc v)) m) refl

-- the weighted sum is the value at the weights
value_absolute : (w : ℕ → ℕ) (f : List Term) → value (λ v. pos (w v)) (absolute f) ≡ pos (weighted_sum w f)
value_absolute w [] = refl
value_absolute w (t ∷ f) = rw (monomial_pos w t.exponents, value_absolute w f) refl

-- the exponents stay
over_absolute : (n : ℕ) (f : List Term) → Over n f → Over n (absolute f)
over_absolute n [] o = tt
over_absolute n (t ∷ f) o = (o.0, over_absolute n f o.1)

-- the exponents stay covered
below_absolute : (bound : List ℕ) (f : List Term) → CoversEach bound f → CoversEach bound (absolute f)
below_absolute bound [] o = tt
below_absolute bound (t ∷ f) o = (o.0, below_absolute bound f o.1)

-- the derivative without signs is the derivative without signs
derived_absolute : (a : List ℕ) (f : List Term) → derived a (absolute f) ≡ absolute (derived a f)
derived_absolute a [] = refl
derived_absolute a (t ∷ f) = by_case (covers t.exponents a) refl (derived_absolute a f) where
  abs : unsigned_abs (t.factor *ℤ pos (binomials t.exponents a)) ≡ unsigned_abs t.factor * binomials t.exponents a
  abs = unsigned_abs-mul t.factor (pos (binomials t.exponents a))

  by_case : (b : Bool) → covers t.exponents a ≡ b → derived a (absolute f) ≡ absolute (derived a f)
      → derived a (absolute (t ∷ f)) ≡ absolute (derived a (t ∷ f))
  by_case true c ih = rw c (rw (abs, ih) refl)
  by_case false c ih = rw c ih

-- the weighted sums of all derivatives, with the weights w, add up to the weighted sum with the weights w + 1
pub weighted-whole : (w : ℕ → ℕ) (bound : List ℕ) (f : List Term) → Over (length bound) f → CoversEach bound f
    → sum_splits bound (λ a c. pos (weighted_sum w (derived a f))) ≡ pos (weighted_sum (λ v. w v + 1) f)
weighted-whole w bound f o h =
    sum_splits-same bound (λ a c. pos (weighted_sum w (derived a f))) (λ a c. value (λ v. pos (w v)) (derived a (absolute f)))
    (λ a c. sym (value_absolute w (derived a f)) ∙ ap (value (λ v. pos (w v))) (sym (derived_absolute a f)))
    ∙ derived-sum (λ v. pos (w v)) bound (absolute f) (over_absolute (length bound) f o) (below_absolute bound f h)
    ∙ value_absolute (λ v. w v + 1) f

-- the same over the vectors that the bound covers
pub weighted-covered : (m : ℕ → ℕ) (bound : List ℕ) (f : List Term) → Over (length bound) f → CoversEach bound f
    → sum_over (λ a. pos (weighted_sum m (derived a f))) (covered_by bound) ≡ pos (weighted_sum (λ v. m v + 1) f)
weighted-covered m bound f o h =
    sum_over-map (λ a. pos (weighted_sum m (derived a f))) (λ s. s.0) (splits bound)
    ∙ sum_splits_is bound (λ a c. pos (weighted_sum m (derived a f)))
    ∙ weighted-whole m bound f o h
