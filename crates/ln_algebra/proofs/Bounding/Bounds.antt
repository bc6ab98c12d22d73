-- Weighted sums bound values, and those of scaled derivatives.
use Rattle.std.proofs.Common.{◌≡◌, ℕ, ◌+◌, ◌-◌, ◌*◌, ◌^◌, ◌≤◌, zero, suc, refl, ◌∙◌, ap, arith, List, [], ◌∷◌, Bool, true, false, leb}
use Rattle.std.proofs.Common.{unsigned_abs, ◌⊎◌, inl, inr}
use Rattle.std.proofs.Math.Nat.{mul-le-mul, mul-le-mul_left, mul-le-mul_right, pow-suc, pow-zero}
use Rattle.std.proofs.lemmas.Bool.{and_parts, cases_lt, leb-true}
use Rattle.std.proofs.lemmas.Int.{ints, unsigned_abs-mul}
use Rattle.std.proofs.Math.IntN.{ℤ, pos, ◌+ℤ◌, ◌*ℤ◌}
use Rattle.ln_algebra.proofs.Deriving.Derived.{binomial-above}
use Rattle.ln_algebra.proofs.Bounding.Weights.{four_ℕ}
use Rattle.ln_algebra.specs.Terms.{Term, binomial, binomials, covers, derived, minus, monomial, power_of, value}
use Rattle.ln_algebra.specs.Weights.{monomial_weight, weighted_sum}

-- ---- values
-- a power is at most the power of the bound
power_of-abs : (x : ℤ) (w n : ℕ) → unsigned_abs x ≤ w → unsigned_abs (power_of x n) ≤ w ^ n
power_of-abs x w zero h = rw pow-zero (omega arith)
power_of-abs x w (suc n) h =
    let l : unsigned_abs x * unsigned_abs (power_of x n) ≤ w * w ^ n = mul-le-mul h (power_of-abs x w n h) in
    omega (arith, l, unsigned_abs-mul x (power_of x n), pow-suc w n)

-- a monomial is at most its weight
monomial-abs : (x : ℕ → ℤ) (w : ℕ → ℕ) (m : List ℕ) → ((v : ℕ) → unsigned_abs (x v) ≤ w v) → unsigned_abs (monomial x m) ≤ monomial_weight w m
monomial-abs x w [] h = omega arith
monomial-abs x w (n ∷ m) h =
    let M : ℤ = monomial (λ v. x (suc v)) m in
    let l : unsigned_abs (power_of (x 0) n) * unsigned_abs M ≤ w 0 ^ n * monomial_weight (λ v. w (suc v)) m =
    mul-le-mul (power_of-abs (x 0) (w 0) n (h 0)) (monomial-abs (λ v. x (suc v)) (λ v. w (suc v)) m (λ v. h (suc v))) in
    omega (arith, l, unsigned_abs-mul (power_of (x 0) n) M)

-- the value of a list of terms is at most its weighted sum
pub value-abs : (x : ℕ → ℤ) (w : ℕ → ℕ) (f : List Term) → ((v : ℕ) → unsigned_abs (x v) ≤ w v) → unsigned_abs (value x f) ≤ weighted_sum w f
value-abs x w [] h = omega arith
value-abs x w (t ∷ f) h =
    let A : ℤ = t.factor *ℤ monomial x t.exponents in
    let s : unsigned_abs (A +ℤ value x f) ≤ unsigned_abs A + unsigned_abs (value x f) = omega (arith, ints) in
    let l : unsigned_abs t.factor * unsigned_abs (monomial x t.exponents) ≤ unsigned_abs t.factor * monomial_weight w t.exponents =
    mul-le-mul_left (unsigned_abs t.factor) (monomial-abs x w t.exponents h) in
    omega (arith, s, l, unsigned_abs-mul t.factor (monomial x t.exponents), value-abs x w f h)

-- ---- derivatives
-- one term of (m + 1)^n is at most the whole
pub binomial-power : (m n k : ℕ) → k ≤ n → binomial n k * m ^ (n - k) ≤ (m + 1) ^ n
binomial-power m zero zero h = omega (arith, pow-zero m, pow-zero (m + 1))
binomial-power m zero (suc k) h = absurd (omega arith)
binomial-power m (suc n) zero h =
    let e : n - 0 ≡ n = omega arith in
    let ih : 1 * m ^ n ≤ (m + 1) ^ n = rw e at (binomial-power m n 0 (omega arith)) in
    let l : m ^ n * m ≤ (m + 1) ^ n * (m + 1) = mul-le-mul (let i : m ^ n ≤ (m + 1) ^ n = omega (arith, ih) in i) (let j : m ≤ m + 1 = omega arith in j) in
    let f : suc n - 0 ≡ suc n = omega arith in
    rw f (omega (arith, l, pow-suc m n, pow-suc (m + 1) n))
binomial-power m (suc n) (suc k) h = by_case (cases_lt k n) (binomial-power m n k (omega arith)) (λ l. binomial-power m n (suc k) l) where
  by_case : (suc k ≤ n) ⊎ (n ≤ k) → binomial n k * m ^ (n - k) ≤ (m + 1) ^ n
      → (suc k ≤ n → binomial n (suc k) * m ^ (n - suc k) ≤ (m + 1) ^ n) → binomial (suc n) (suc k) * m ^ (suc n - suc k) ≤ (m + 1) ^ suc n
  by_case (inl l) a ih =
      let e : suc n - suc k ≡ n - k = omega arith in
      let f : n - k ≡ suc (n - suc k) = omega arith in
      let P : ℕ = m ^ (n - suc k) in
      let p : m ^ (n - k) ≡ P * m = ap (λ z. m ^ z) f ∙ pow-suc m (n - suc k) in
      let q : binomial n (suc k) * m ^ (n - k) ≡ (binomial n (suc k) * P) * m =
      ap (λ z. binomial n (suc k) * z) p ∙ (let z : binomial n (suc k) * (P * m) ≡ (binomial n (suc k) * P) * m = omega arith in z) in
      let r : (binomial n (suc k) * P) * m ≤ (m + 1) ^ n * m = mul-le-mul_right m (ih l) in
      rw e (omega (arith, a, q, r, pow-suc (m + 1) n))
  by_case (inr l) a ih =
      let e : suc n - suc k ≡ n - k = omega arith in
      let b : binomial n (suc k) ≡ 0 = binomial-above n (suc k) (omega arith) in
      let q : binomial n (suc k) * m ^ (n - k) ≡ 0 * m ^ (n - k) = ap (λ z. z * m ^ (n - k)) b in
      let r : (m + 1) ^ n * 1 ≤ (m + 1) ^ n * (m + 1) = mul-le-mul_left ((m + 1) ^ n) (let i : 1 ≤ m + 1 = omega arith in i) in
      rw e (omega (arith, a, q, r, pow-suc (m + 1) n))

-- the same over all variables
binomials-weight : (m : ℕ → ℕ) (k a : List ℕ) → covers k a ≡ true → binomials k a * monomial_weight m (minus k a) ≤ monomial_weight (λ v. m v + 1) k
binomials-weight m [] [] c = omega arith
binomials-weight m [] (j ∷ a) c = cc
binomials-weight m (n ∷ k) [] c = cc
binomials-weight m (n ∷ k) (j ∷ a) c =
    let p = and_parts (leb j n) (covers k a) c in
    let u : ℕ → ℕ = λ v. m (suc v) in
    let l : (binomial n j * m 0 ^ (n - j)) * (binomials k a * monomial_weight u (minus k a)) ≤ (m 0 + 1) ^ n * monomial_weight (λ v. u v + 1) k =
    mul-le-mul (binomial-power (m 0) n j (leb-true j n p.0)) (binomials-weight u k a p.1) in
    omega (
      arith,
      l,
      four_ℕ (binomial n j) (binomials k a) (m 0 ^ (n - j)) (monomial_weight u (minus k a)) (binomial n j * binomials k a)
          (m 0 ^ (n - j) * monomial_weight u (minus k a)) refl refl,
    )

-- the weighted sum of each scaled derivative is at most that of the whole, with weights larger by 1
pub weighted-derived : (m : ℕ → ℕ) (a : List ℕ) (f : List Term) → weighted_sum m (derived a f) ≤ weighted_sum (λ v. m v + 1) f
weighted-derived m a [] = omega arith
weighted-derived m a (t ∷ f) = by_case (covers t.exponents a) refl (weighted-derived m a f) where
  by_case : (b : Bool) → covers t.exponents a ≡ b → weighted_sum m (derived a f) ≤ weighted_sum (λ v. m v + 1) f
      → weighted_sum m (derived a (t ∷ f)) ≤ weighted_sum (λ v. m v + 1) (t ∷ f)
  by_case false c ih = rw c (omega (arith, ih))
  by_case true c ih =
      let F : ℕ = unsigned_abs t.factor in
      let B : ℕ = binomials t.exponents a in
      let W : ℕ = monomial_weight m (minus t.exponents a) in
      let l : F * (B * W) ≤ F * monomial_weight (λ v. m v + 1) t.exponents = mul-le-mul_left F (binomials-weight m t.exponents a c) in
      let e : unsigned_abs (t.factor *ℤ pos B) * W ≡ (F * B) * W = ap (λ z. z * W) (unsigned_abs-mul t.factor (pos B)) in
      let g : (F * B) * W ≡ F * (B * W) = omega arith in
      rw c (omega (arith, ih, l, e, g))
