-- The power of a variable, by squares.
use Rattle.std.proofs.Common.{◌≡◌, ℕ, ◌+◌, ◌-◌, ◌*◌, ◌^◌, ◌/◌, ◌≤◌, ◌<◌, nat_le, Bool, true, false, [], ◌∷◌, refl, zero, suc, ap, arith, pos}
use Rattle.std.proofs.Common.{◌∙◌, sym, subst, if◌then◌else◌}
use Rattle.std.proofs.lemmas.Bool.Decides.{nat_tests}
use Rattle.std.proofs.Math.Nat.{pow-suc, pow-zero}
use Rattle.ln_algebra.specs.Tree.{InputsBelow, Tree, Input, Mul, Pow, inlined}
use Rattle.ln_algebra.proofs.Expanded.Expansion.{expanded}
use Rattle.ln_bound.specs.Value.{weight_over}
use Rattle.ln_nest.specs.Nested.{is_square, power}
use Rattle.ln_nest.proofs.Terms.Parts.{power_vector, power_vector-one, plus-power_vector, plus_zeros, length-power_vector}

-- ---- powers of numbers
-- of a sum of exponents
pub power_sum : (w a b : ℕ) → w ^ (a + b) ≡ w ^ a * w ^ b
power_sum w a zero = let z : a + 0 ≡ a = omega arith in rw (z, pow-zero w) (omega arith)
power_sum w a (suc b) = let q : a + suc b ≡ suc (a + b) = omega arith in rw (q, pow-suc w (a + b), pow-suc w b, power_sum w a b) (omega arith)

-- the first
pub power_one : (w : ℕ) → w ^ 1 ≡ w
power_one w = pow-suc w 0 ∙ rw (pow-zero w) (omega arith)

-- the square
pub power_two : (w : ℕ) → w ^ 2 ≡ w * w
power_two w = power_sum w 1 1 ∙ rw (power_one w) refl

-- ---- powers of a variable
-- where the power is a square, its half is at least 2 and makes it twice
pub halves : (e : ℕ) → is_square e ≡ true → (2 ≤ e / 2) × (e / 2 + e / 2 ≡ e)
halves e q = grind (arith, nat_tests)

-- what holds of the first power, and of a product with the variable and of a square where it holds of the operand, holds of each power
module _ (v : ℕ) (P : ℕ → Tree → Type 0) (one : P 1 (Input v)) (again : (e : ℕ) (t : Tree) → 1 ≤ e → P e t → P (e + 1) (Mul t (Input v)))
    (twice : (e : ℕ) (t : Tree) → 2 ≤ e → P e t → P (e + e) (Pow t 2)) where
  more : (k e : ℕ) → 1 ≤ e → e ≤ suc k + 1 → ((a : ℕ) → 1 ≤ a → a ≤ k + 1 → P a (power k v a)) → P e (power (suc k) v e)
  more k e l h ih = by_case (nat_le e 1) (is_square e) refl refl
    where
      by_case : (a b : Bool) → nat_le e 1 ≡ a → is_square e ≡ b
          → P e (if a then Input v else (if b then Pow (power k v (e / 2)) 2 else Mul (power k v (e - 1)) (Input v)))
      by_case true b p q = let r : 1 ≡ e = grind (arith, nat_tests) in subst (λ n. P n (Input v)) r one
      by_case false true p q =
          let r = halves e q in
          subst (λ n. P n (Pow (power k v (e / 2)) 2)) r.1
          (twice (e / 2) (power k v (e / 2)) r.0 (ih (e / 2) (omega (arith, r.0)) (omega (arith, r.0, r.1, h))))
      by_case false false p q =
          let g : 2 ≤ e = grind (arith, nat_tests) in
          let r : e - 1 + 1 ≡ e = omega (arith, g) in
          subst (λ n. P n (Mul (power k v (e - 1)) (Input v))) r
          (again (e - 1) (power k v (e - 1)) (omega (arith, g)) (ih (e - 1) (omega (arith, g)) (omega (arith, h, g))))

  -- each power has what the variable has, and what a square and a product with the variable have after it
  pub power_has : (k e : ℕ) → 1 ≤ e → e ≤ k + 1 → P e (power k v e)
  power_has zero e l h = let q : 1 ≡ e = omega (arith, l, h) in subst (λ n. P n (Input v)) q one
  power_has (suc k) e l h = more k e l h (power_has k)

-- a square and a product in one step more
pub squares : (k v e : ℕ) → 2 ≤ e → is_square e ≡ true → power (suc k) v e ≡ Pow (power k v (e / 2)) 2
squares k v e l q = let r : nat_le e 1 ≡ false = grind (arith, nat_tests) in rw (r, q) refl

-- and else it is the power before it, times the variable
pub multiplies : (k v e : ℕ) → 2 ≤ e → is_square e ≡ false → power (suc k) v e ≡ Mul (power k v (e - 1)) (Input v)
multiplies k v e l q = let r : nat_le e 1 ≡ false = grind (arith, nat_tests) in rw (r, q) refl

-- multiplied out it is the one monomial
pub expanded_power : (n v k e : ℕ) → 1 ≤ e → e ≤ k + 1 → expanded n (power k v e) ≡ record { exponents = power_vector n v e; factor = pos 1 } ∷ []
expanded_power n v =
    power_has v (λ e t. expanded n t ≡ record { exponents = power_vector n v e; factor = pos 1 } ∷ [])
    (rw (power_vector-one n v) refl)
    (λ e t l h. rw (h, power_vector-one n v, plus-power_vector n v e 1) refl)
    (λ e t l h. rw (h, plus_zeros n (power_vector n v e) (length-power_vector n v e), plus-power_vector n v e e) refl)

-- its variable is v
pub inputs_power : (n v k e : ℕ) → v < n → 1 ≤ e → e ≤ k + 1 → InputsBelow n (power k v e)
inputs_power n v k e u = power_has v (λ e t. InputsBelow n t) u (λ e t l h. (h, u)) (λ e t l h. h) k e

-- it has no let
pub closed_power : (v k e : ℕ) → 1 ≤ e → e ≤ k + 1 → inlined [] (power k v e) ≡ power k v e
closed_power v = power_has v (λ e t. inlined [] t ≡ t) refl (λ e t l h. rw h refl) (λ e t l h. rw h refl)

-- its weight is the power of that of the variable
pub weight_power : (w : ℕ → ℕ) (v k e : ℕ) → 1 ≤ e → e ≤ k + 1 → weight_over w [] (power k v e) ≡ w v ^ e
weight_power w v =
    power_has v (λ e t. weight_over w [] t ≡ w v ^ e) (sym (power_one (w v)))
    (λ e t l h. rw h (sym (power_sum (w v) e 1 ∙ ap (λ x. w v ^ e * x) (power_one (w v)))))
    (λ e t l h. rw h (power_two (w v ^ e) ∙ sym (power_sum (w v) e e)))
