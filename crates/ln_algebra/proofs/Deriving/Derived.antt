-- The value of a scaled derivative is a coefficient.
use Rattle.std.proofs.Common.{◌≡◌, ℕ, ◌+◌, ◌-◌, ◌<◌, ◌≤◌, zero, suc, refl, sym, ◌∙◌, ap, subst, arith, List, [], ◌∷◌, length, Bool, true, false, eqb, leb}
use Rattle.std.proofs.Math.Nat.{suc-add, zero-add}
use Rattle.std.proofs.lemmas.Int.{ints}
use Rattle.std.proofs.lemmas.Bool.Decides.{nat_tests}
use Rattle.std.proofs.lemmas.Grind.{common_steps}
use Rattle.std.proofs.Math.IntN.{ℤ, pos, ◌+ℤ◌, ◌*ℤ◌, +ℤ_comm}
use Rattle.ln_algebra.proofs.Expanded.Ring.{mul_add, mul_assoc, mul_comm, four, one_mul, mul_one}
use Rattle.ln_algebra.proofs.Deriving.Taylor.{taylor}
use Rattle.ln_algebra.proofs.Expanded.Expansion.{part, tau, expanded, Over-expanded, shifted}
use Rattle.ln_algebra.proofs.Expanded.Shift.{coefficient_is}
use Rattle.ln_algebra.proofs.Expanded.Normal.{normal_is, total, total-same, same_vector-is}
use Rattle.ln_algebra.specs.Coefficient.{coefficient}
use Rattle.ln_algebra.specs.Law.{Within, IsNormalOf}
use Rattle.ln_algebra.specs.Terms.{Over, Term, factor_at, same_vector, binomial, binomials, power_of, monomial, value, covers, minus, derived}
use Rattle.ln_algebra.specs.Tree.{Tree, InputsBelow}

-- ---- lists over n variables
-- at vectors of other lengths the coefficient is 0
pub factor_at-length : (n : ℕ) (f : List Term) (k : List ℕ) → Over n f → (length k ≡ n → ⊥) → factor_at f k ≡ pos 0
factor_at-length n [] k o h = refl
factor_at-length n (t ∷ f) k o h = by_case (same_vector t.exponents k) refl (factor_at-length n f k o.1 h) where
  by_case : (b : Bool) → same_vector t.exponents k ≡ b → factor_at f k ≡ pos 0 → factor_at (t ∷ f) k ≡ pos 0
  by_case true e ih = absurd (h (ap length (sym (same_vector-is t.exponents k e)) ∙ o.0))
  by_case false e ih = rw e (omega (arith, ints, ih))

-- lists over n variables with the same coefficients at vectors of n exponents have the same sums
pub total-same-over : (n : ℕ) (h : List ℕ → ℤ) (f g : List Term) → Over n f → Over n g
    → ((k : List ℕ) → length k ≡ n → factor_at f k ≡ factor_at g k) → total h f ≡ total h g
total-same-over n h f g o p e = total-same h f g (λ k. by_case k (eqb (length k) n) refl) where
  by_case : (k : List ℕ) (b : Bool) → eqb (length k) n ≡ b → factor_at f k ≡ factor_at g k
  by_case k true d = e k (grind (arith, nat_tests))
  by_case k false d =
      let ne : length k ≡ n → ⊥ = λ q. grind (arith, nat_tests) in
      factor_at-length n f k o ne ∙ sym (factor_at-length n g k p ne)

-- ---- one variable
-- there is no power of e above the n-th
taylor-above : (x : ℤ) (n k : ℕ) → n < k → taylor x n k ≡ pos 0
taylor-above x n zero h = absurd (omega arith)
taylor-above x zero (suc k) h = refl
taylor-above x (suc n) (suc k) h =
    let z : x *ℤ pos 0 ≡ pos 0 = omega (arith, ints) in
    omega (arith, ints, ap (λ t. x *ℤ t) (taylor-above x n (suc k) (omega arith)), z, taylor-above x n k (omega arith))

-- at e = 0 it is the power
taylor-none : (x : ℤ) (n : ℕ) → taylor x n 0 ≡ power_of x n
taylor-none x zero = refl
taylor-none x (suc n) = ap (λ t. x *ℤ t) (taylor-none x n)

-- there is no way to choose more than all
pub binomial-above : (n k : ℕ) → n < k → binomial n k ≡ 0
binomial-above n zero h = absurd (omega arith)
binomial-above zero (suc k) h = refl
binomial-above (suc n) (suc k) h = omega (arith, binomial-above n (suc k) (omega arith), binomial-above n k (omega arith))

-- one power of x and one of e more, by Pascal's rule
taylor-step : (x : ℤ) (k j : ℕ) → taylor x (suc k + j) (suc k) ≡ pos (binomial (suc k + j) (suc k)) *ℤ power_of x j
    → taylor x (k + suc j) k ≡ pos (binomial (k + suc j) k) *ℤ power_of x (suc j)
    → taylor x (suc (k + suc j)) (suc k) ≡ pos (binomial (suc (k + suc j)) (suc k)) *ℤ power_of x (suc j)
taylor-step x k j a b =
    let n : ℕ = k + suc j in
    let m : suc k + j ≡ k + suc j = omega arith in
    let c : taylor x n (suc k) ≡ pos (binomial n (suc k)) *ℤ power_of x j = rw m at a in
    let P : ℤ = power_of x j in
    let move : x *ℤ (pos (binomial n (suc k)) *ℤ P) ≡ pos (binomial n (suc k)) *ℤ (x *ℤ P) =
    sym (mul_assoc x (pos (binomial n (suc k))) P) ∙ ap (λ t. t *ℤ P) (mul_comm x (pos (binomial n (suc k)))) ∙ mul_assoc (pos (binomial n (suc k))) x P in
    let spread : (pos (binomial n k) +ℤ pos (binomial n (suc k))) *ℤ (x *ℤ P) ≡ pos (binomial n k) *ℤ (x *ℤ P) +ℤ pos (binomial n (suc k)) *ℤ (x *ℤ P) = omega (
      arith,
      ints,
      mul_comm (pos (binomial n k) +ℤ pos (binomial n (suc k))) (x *ℤ P),
      mul_add (x *ℤ P) (pos (binomial n k)) (pos (binomial n (suc k))),
      mul_comm (x *ℤ P) (pos (binomial n k)),
      mul_comm (x *ℤ P) (pos (binomial n (suc k))),
    ) in
    ap (λ t. x *ℤ t +ℤ taylor x n k) c ∙ ap (λ t. x *ℤ (pos (binomial n (suc k)) *ℤ P) +ℤ t) b ∙ ap (λ t. t +ℤ pos (binomial n k) *ℤ (x *ℤ P)) move
    ∙ +ℤ_comm (pos (binomial n (suc k)) *ℤ (x *ℤ P)) (pos (binomial n k) *ℤ (x *ℤ P)) ∙ sym spread

-- at n = k + j the coefficient is the binomial times the power
taylor-at : (x : ℤ) (k j : ℕ) → taylor x (k + j) k ≡ pos (binomial (k + j) k) *ℤ power_of x j
taylor-at x zero j = rw zero-add (taylor-none x j ∙ sym (one_mul (power_of x j)))
taylor-at x (suc k) zero = rw suc-add (
    let z : x *ℤ pos 0 ≡ pos 0 = omega (arith, ints) in
    let above : k + 0 < suc k = omega arith in
    let w : (pos (binomial (k + 0) k) +ℤ pos (binomial (k + 0) (suc k))) *ℤ pos 1 ≡ pos (binomial (k + 0) k) =
    omega (arith, ints, binomial-above (k + 0) (suc k) above) in
    omega (arith, ints, ap (λ t. x *ℤ t) (taylor-above x (k + 0) (suc k) above), z, taylor-at x k zero, w, mul_one (pos (binomial (k + 0) k))))
taylor-at x (suc k) (suc j) = rw suc-add (taylor-step x k j (taylor-at x (suc k) j) (taylor-at x k (suc j)))

-- ---- all variables
-- a variable of the set, or an exponent of 0, is expanded
part-within : (p : ℕ → Bool) (x : ℤ) (n k : ℕ) (a : List ℕ) → Within p (k ∷ a) → part (p 0) x n k ≡ taylor x n k
part-within p x n zero a w = elim (p 0) as (λ b. part b x n 0 ≡ taylor x n 0) [ true ↦ refl | false ↦ refl ]
part-within p x n (suc k) a w = rw w.0 refl

-- the other variables
Within-tail : (p : ℕ → Bool) (k : ℕ) (a : List ℕ) → Within p (k ∷ a) → Within (λ v. p (suc v)) a
Within-tail p zero a w = w
Within-tail p (suc k) a w = w.1

-- a monomial that doesn't cover a has coefficient 0 at a
pub tau-uncovered : (p : ℕ → Bool) (x : ℕ → ℤ) (m a : List ℕ) → length m ≡ length a → Within p a → covers m a ≡ false → tau p x m a ≡ pos 0
tau-uncovered p x [] [] e w c = cc
tau-uncovered p x [] (k ∷ a) e w c = absurd (omega arith)
tau-uncovered p x (n ∷ m) [] e w c = absurd (omega arith)
tau-uncovered p x (n ∷ m) (k ∷ a) e w c = by_case (leb k n) refl (λ d. tau-uncovered q y m a (omega arith) (Within-tail p k a w) d) where
  q : ℕ → Bool
  q v = p (suc v)

  y : ℕ → ℤ
  y v = x (suc v)

  by_case : (b : Bool) → leb k n ≡ b → (covers m a ≡ false → tau (λ v. p (suc v)) (λ v. x (suc v)) m a ≡ pos 0) → tau p x (n ∷ m) (k ∷ a) ≡ pos 0
  by_case true d ih =
      let u : covers m a ≡ false = grind (arith, nat_tests, common_steps) in
      let z : part (p 0) (x 0) n k *ℤ pos 0 ≡ pos 0 = omega (arith, ints) in
      ap (λ t. part (p 0) (x 0) n k *ℤ t) (ih u) ∙ z
  by_case false d ih =
      let l : n < k = grind (arith, nat_tests) in
      let T : ℤ = tau (λ v. p (suc v)) (λ v. x (suc v)) m a in
      let z : pos 0 *ℤ T ≡ pos 0 = omega (arith, ints) in
      ap (λ t. t *ℤ T) (part-within p (x 0) n k a w ∙ taylor-above (x 0) n k l) ∙ z

-- at n it is the binomial times the power of n - k
taylor-covered : (x : ℤ) (n k : ℕ) → k ≤ n → taylor x n k ≡ pos (binomial n k) *ℤ power_of x (n - k)
taylor-covered x n k h =
    let e : k + (n - k) ≡ n = omega arith in
    let P : ℕ → Type 0 = λ m. taylor x m k ≡ pos (binomial m k) *ℤ power_of x (n - k) in
    subst P e (taylor-at x k (n - k))

-- a monomial that covers a has the binomials times the rest's value
pub tau-covered : (p : ℕ → Bool) (x : ℕ → ℤ) (m a : List ℕ) → length m ≡ length a → Within p a → covers m a ≡ true
    → tau p x m a ≡ pos (binomials m a) *ℤ monomial x (minus m a)
tau-covered p x [] a e w c = refl
tau-covered p x (n ∷ m) [] e w c = absurd (omega arith)
tau-covered p x (n ∷ m) (k ∷ a) e w c =
    let l : k ≤ n = grind (arith, nat_tests, common_steps) in
    let r : covers m a ≡ true = grind (arith, nat_tests, common_steps) in
    let q : ℕ → Bool = λ v. p (suc v) in
    let y : ℕ → ℤ = λ v. x (suc v) in
    ap (λ t. t *ℤ tau q y m a) (part-within p (x 0) n k a w ∙ taylor-covered (x 0) n k l)
    ∙ ap (λ t. (pos (binomial n k) *ℤ power_of (x 0) (n - k)) *ℤ t) (tau-covered q y m a (omega arith) (Within-tail p k a w) r)
    ∙ four (pos (binomial n k)) (power_of (x 0) (n - k)) (pos (binomials m a)) (monomial y (minus m a))

-- the value of the derivative at x
pub value-derived : (p : ℕ → Bool) (x : ℕ → ℤ) (a : List ℕ) (f : List Term) → Over (length a) f → Within p a → value x (derived a f) ≡ shifted p x a f
value-derived p x a [] o w = refl
value-derived p x a (t ∷ f) o w = by_case (covers t.exponents a) refl (value-derived p x a f o.1 w) where
  by_case : (b : Bool) → covers t.exponents a ≡ b → value x (derived a f) ≡ shifted p x a f → value x (derived a (t ∷ f)) ≡ shifted p x a (t ∷ f)
  by_case true c ih = rw c (
      ap (λ z. (t.factor *ℤ pos (binomials t.exponents a)) *ℤ monomial x (minus t.exponents a) +ℤ z) ih
      ∙ ap (λ z. z +ℤ shifted p x a f) (mul_assoc t.factor (pos (binomials t.exponents a)) (monomial x (minus t.exponents a))
      ∙ ap (λ z. t.factor *ℤ z) (sym (tau-covered p x t.exponents a o.0 w c))))
  by_case false c ih =
      let z : t.factor *ℤ pos 0 ≡ pos 0 = omega (arith, ints) in
      rw c (ih ∙ (let u : shifted p x a f ≡ pos 0 +ℤ shifted p x a f = omega (arith, ints) in u)
      ∙ ap (λ y. y +ℤ shifted p x a f) (sym (ap (λ y. t.factor *ℤ y) (tau-uncovered p x t.exponents a o.0 w c) ∙ z)))

-- the value of the scaled derivative by a is the coefficient at a
pub derivative-coefficient : (n : ℕ) (e : Tree) (f : List Term) (p : ℕ → Bool) (x : ℕ → ℤ) (a : List ℕ) → InputsBelow n e → IsNormalOf n e f
    → length a ≡ n → Within p a → value x (derived a f) ≡ coefficient p x e a
derivative-coefficient n e f p x a i h l w =
    value-derived p x a f (rw l h.over) w
    ∙ total-same-over n (λ m. tau p x m a) f (expanded n e) h.over (Over-expanded n e) (λ k q. h.coefficients k q ∙ normal_is n e i k q)
    ∙ sym (coefficient_is p x n e i a l)
