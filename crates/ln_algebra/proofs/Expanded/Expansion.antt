-- The coefficients of an expression as a sum over the terms of its expansion.
use Rattle.std.proofs.Common.{◌≡◌, ℕ, ◌+◌, ◌<◌, zero, suc, refl, sym, ◌∙◌, ap, arith, List, [], ◌∷◌, ◌++◌, length, Bool, true, false, ◌&&◌, if◌then◌else◌}
use Rattle.std.proofs.lemmas.Int.{ints}
use Rattle.std.proofs.Math.IntN.{ℤ, pos, ◌+ℤ◌, ◌*ℤ◌, neg_ℤ}
use Rattle.ln_algebra.proofs.Expanded.Ring.{mul_add, mul_comm, mul_neg, four, one_mul}
use Rattle.ln_algebra.proofs.Expanded.Sums.{sum_parts, sum_splits, sum_over-append}
use Rattle.ln_algebra.proofs.Deriving.Taylor.{taylor, vandermonde, sum_parts-same, sum_parts-zero, sum_parts-scale, sum_splits-same}
use Rattle.ln_algebra.proofs.Deriving.Taylor.{sum_splits-scale, sum_splits-add, sum_splits-zero}
use Rattle.ln_algebra.specs.Vector.{sum_over, plus, is_zero, is_zero_number, is_one_number}
pub use Rattle.ln_algebra.specs.Vector.{zeros, unit_vector}
use Rattle.ln_algebra.specs.Coefficient.{variable}
use Rattle.ln_algebra.specs.Terms.{Over, Term}
use Rattle.ln_algebra.specs.Tree.{Tree, Num, Input, Name, Neg, Add, Sub, Mul, Pow}

-- one variable: the coefficient of e^k in (x + e)^n, or in x^n where it isn't perturbed
abbrev pub part : Bool → ℤ → ℕ → ℕ → ℤ
part true x n k = taylor x n k
part false x n zero = taylor x n 0
part false x n (suc k) = pos 0

-- all variables
abbrev pub tau : (ℕ → Bool) → (ℕ → ℤ) → List ℕ → List ℕ → ℤ
tau p x [] a = pos 1
tau p x (n ∷ m) [] = pos 1
tau p x (n ∷ m) (k ∷ a) = part (p 0) (x 0) n k *ℤ tau (λ v. p (suc v)) (λ v. x (suc v)) m a

-- the product rule of powers
part_plus : (p : Bool) (x : ℤ) (n k a : ℕ) → part p x (n + k) a ≡ sum_parts a (λ b c. part p x n b *ℤ part p x k c)
part_plus true x n k a = vandermonde x n k a
part_plus false x n k zero = vandermonde x n k 0
part_plus false x n k (suc a) =
    let z : sum_parts a (λ b c. pos 0 *ℤ part false x k c) ≡ pos 0 =
    sum_parts-same a (λ b c. pos 0 *ℤ part false x k c) (λ b c. pos 0) (λ b c. omega (arith, ints)) ∙ sum_parts-zero a in
    omega (arith, ints, z)

-- the product rule of monomials
pub tau_plus : (p : ℕ → Bool) (x : ℕ → ℤ) (m k a : List ℕ) → length m ≡ length a → length k ≡ length a
    → tau p x (plus m k) a ≡ sum_splits a (λ b c. tau p x m b *ℤ tau p x k c)
tau_plus p x [] [] [] e f = refl
tau_plus p x [] (j ∷ k) [] e f = absurd (omega arith)
tau_plus p x [] k (c ∷ a) e f = absurd (omega arith)
tau_plus p x (n ∷ m) k [] e f = absurd (omega arith)
tau_plus p x (n ∷ m) [] (c ∷ a) e f = absurd (omega arith)
tau_plus p x (n ∷ m) (j ∷ k) (c ∷ a) e f =
    let q : ℕ → Bool = λ v. p (suc v) in
    let y : ℕ → ℤ = λ v. x (suc v) in
    let S : ℤ = sum_splits a (λ b d. tau q y m b *ℤ tau q y k d) in
    ap (λ t. part (p 0) (x 0) (n + j) c *ℤ t) (tau_plus q y m k a (omega arith) (omega arith))
    ∙ ap (λ t. t *ℤ S) (part_plus (p 0) (x 0) n j c)
    ∙ mul_comm (sum_parts c (λ b d. part (p 0) (x 0) n b *ℤ part (p 0) (x 0) j d)) S
    ∙ sym (sum_parts-scale c S (λ b d. part (p 0) (x 0) n b *ℤ part (p 0) (x 0) j d))
    ∙ sum_parts-same c (λ b d. S *ℤ (part (p 0) (x 0) n b *ℤ part (p 0) (x 0) j d))
    (λ i l. sum_splits a (λ b d. (part (p 0) (x 0) n i *ℤ tau q y m b) *ℤ (part (p 0) (x 0) j l *ℤ tau q y k d)))
    (λ i l.
    mul_comm S (part (p 0) (x 0) n i *ℤ part (p 0) (x 0) j l)
    ∙ sym (sum_splits-scale a (part (p 0) (x 0) n i *ℤ part (p 0) (x 0) j l) (λ b d. tau q y m b *ℤ tau q y k d))
    ∙ sum_splits-same a (λ b d. (part (p 0) (x 0) n i *ℤ part (p 0) (x 0) j l) *ℤ (tau q y m b *ℤ tau q y k d))
    (λ b d. (part (p 0) (x 0) n i *ℤ tau q y m b) *ℤ (part (p 0) (x 0) j l *ℤ tau q y k d))
    (λ b d. four (part (p 0) (x 0) n i) (part (p 0) (x 0) j l) (tau q y m b) (tau q y k d)))

-- ---- the leaves
-- it has n exponents
pub length-zeros : (n : ℕ) → length (zeros n) ≡ n
length-zeros zero = refl
length-zeros (suc n) = ap suc (length-zeros n)

-- so has a unit vector
pub length-unit_vector : (n v : ℕ) → length (unit_vector n v) ≡ n
length-unit_vector zero v = refl
length-unit_vector (suc n) zero = ap suc (length-zeros n)
length-unit_vector (suc n) (suc v) = ap suc (length-unit_vector n v)

-- a sum has as many exponents
pub length-plus : (a b : List ℕ) → length a ≡ length b → length (plus a b) ≡ length b
length-plus [] b h = h
length-plus (n ∷ a) [] h = refl
length-plus (n ∷ a) (k ∷ b) h = ap suc (length-plus a b (omega arith))

-- the power 0 is 1
pub part_zero : (p : Bool) (x : ℤ) (k : ℕ) → part p x 0 k ≡ if is_zero_number k then pos 1 else pos 0
part_zero true x zero = refl
part_zero true x (suc k) = refl
part_zero false x zero = refl
part_zero false x (suc k) = refl

-- the monomial 1 is 1
pub tau-zeros : (p : ℕ → Bool) (x : ℕ → ℤ) (n : ℕ) (a : List ℕ) → length a ≡ n → tau p x (zeros n) a ≡ if is_zero a then pos 1 else pos 0
tau-zeros p x zero [] h = refl
tau-zeros p x zero (k ∷ a) h = absurd (omega arith)
tau-zeros p x (suc n) [] h = absurd (omega arith)
tau-zeros p x (suc n) (zero ∷ a) h = ap (λ t. t *ℤ tau (λ v. p (suc v)) (λ v. x (suc v)) (zeros n) a) (part_zero (p 0) (x 0) 0)
    ∙ one_mul (tau (λ v. p (suc v)) (λ v. x (suc v)) (zeros n) a) ∙ tau-zeros (λ v. p (suc v)) (λ v. x (suc v)) n a (omega arith)
tau-zeros p x (suc n) (suc k ∷ a) h =
    let T : ℤ = tau (λ v. p (suc v)) (λ v. x (suc v)) (zeros n) a in
    ap (λ t. t *ℤ T) (part_zero (p 0) (x 0) (suc k)) ∙ (let z : pos 0 *ℤ T ≡ pos 0 = omega (arith, ints) in z)

-- the first power of a variable, beside other exponents
one_variable : (q : Bool) (x : ℤ) (k : ℕ) (z : Bool)
    → part q x 1 k *ℤ (if z then pos 1 else pos 0) ≡ if is_zero_number k && z then x else (if q && (is_one_number k && z) then pos 1 else pos 0)
one_variable true x zero true = omega (arith, ints)
one_variable true x zero false = omega (arith, ints)
one_variable true x (suc zero) true = omega (arith, ints)
one_variable true x (suc zero) false = omega (arith, ints)
one_variable true x (suc (suc k)) true = omega (arith, ints)
one_variable true x (suc (suc k)) false = omega (arith, ints)
one_variable false x zero true = omega (arith, ints)
one_variable false x zero false = omega (arith, ints)
one_variable false x (suc k) true = omega (arith, ints)
one_variable false x (suc k) false = omega (arith, ints)

-- no coefficient where another exponent isn't 0
not_here : (q : Bool) → pos 0 ≡ if q && false then pos 1 else pos 0
not_here true = refl
not_here false = refl

-- the monomial of a variable is the variable
pub tau-unit_vector : (p : ℕ → Bool) (x : ℕ → ℤ) (n v : ℕ) (a : List ℕ) → v < n → length a ≡ n → tau p x (unit_vector n v) a ≡ variable (p v) v (x v) a
tau-unit_vector p x zero v a h e = absurd (omega arith)
tau-unit_vector p x (suc n) v [] h e = absurd (omega arith)
tau-unit_vector p x (suc n) zero (k ∷ a) h e =
    ap (λ t. part (p 0) (x 0) 1 k *ℤ t) (tau-zeros (λ v. p (suc v)) (λ v. x (suc v)) n a (omega arith)) ∙ one_variable (p 0) (x 0) k (is_zero a)
tau-unit_vector p x (suc n) (suc v) (zero ∷ a) h e =
    let T : ℤ = tau (λ v. p (suc v)) (λ v. x (suc v)) (unit_vector n v) a in
    ap (λ t. t *ℤ T) (part_zero (p 0) (x 0) 0) ∙ one_mul T ∙ tau-unit_vector (λ v. p (suc v)) (λ v. x (suc v)) n v a (omega arith) (omega arith)
tau-unit_vector p x (suc n) (suc v) (suc k ∷ a) h e =
    let T : ℤ = tau (λ v. p (suc v)) (λ v. x (suc v)) (unit_vector n v) a in
    ap (λ t. t *ℤ T) (part_zero (p 0) (x 0) (suc k)) ∙ (let z : pos 0 *ℤ T ≡ pos 0 = omega (arith, ints) in z) ∙ not_here (p (suc v))

-- ---- the expansion
-- a term times each of a list
abbrev pub times_term : Term → List Term → List Term
times_term t [] = []
times_term t (s ∷ g) = record { exponents = plus t.exponents s.exponents; factor = t.factor *ℤ s.factor } ∷ times_term t g

-- the product of two lists of terms, not collected
abbrev pub times : List Term → List Term → List Term
times [] g = []
times (t ∷ f) g = times_term t g ++ times f g

-- each factor with the other sign
abbrev pub negated : List Term → List Term
negated [] = []
negated (t ∷ f) = record { exponents = t.exponents; factor = neg_ℤ t.factor } ∷ negated f

-- the k-th power of a list of terms
abbrev pub power_terms : ℕ → List Term → ℕ → List Term
power_terms n f zero = record { exponents = zeros n; factor = pos 1 } ∷ []
power_terms n f (suc k) = times (power_terms n f k) f

-- an expression multiplied out, with like terms not collected
abbrev pub expanded : ℕ → Tree → List Term
expanded n (Num c) = record { exponents = zeros n; factor = c } ∷ []
expanded n (Input v) = record { exponents = unit_vector n v; factor = pos 1 } ∷ []
expanded n (Name j) = []
expanded n (Neg e) = negated (expanded n e)
expanded n (Add e f) = expanded n e ++ expanded n f
expanded n (Sub e f) = expanded n e ++ negated (expanded n f)
expanded n (Mul e f) = times (expanded n e) (expanded n f)
expanded n (Pow e k) = power_terms n (expanded n e) k

-- each term of the expansion is over n variables: of lists one after the other
pub Over-append : (n : ℕ) (f g : List Term) → Over n f → Over n g → Over n (f ++ g)
Over-append n [] g h k = k
Over-append n (t ∷ f) g h k = (h.0, Over-append n f g h.1 k)

-- of a product with a term
pub Over-times_term : (n : ℕ) (t : Term) (g : List Term) → length t.exponents ≡ n → Over n g → Over n (times_term t g)
Over-times_term n t [] e h = tt
Over-times_term n t (s ∷ g) e h = (length-plus t.exponents s.exponents (e ∙ sym h.0) ∙ h.0, Over-times_term n t g e h.1)

-- of a product
pub Over-times : (n : ℕ) (f g : List Term) → Over n f → Over n g → Over n (times f g)
Over-times n [] g h k = tt
Over-times n (t ∷ f) g h k = Over-append n (times_term t g) (times f g) (Over-times_term n t g h.0 k) (Over-times n f g h.1 k)

-- of the other sign
pub Over-negated : (n : ℕ) (f : List Term) → Over n f → Over n (negated f)
Over-negated n [] h = tt
Over-negated n (t ∷ f) h = (h.0, Over-negated n f h.1)

-- of a power
pub Over-power_terms : (n : ℕ) (f : List Term) (k : ℕ) → Over n f → Over n (power_terms n f k)
Over-power_terms n f zero h = (length-zeros n, tt)
Over-power_terms n f (suc k) h = Over-times n (power_terms n f k) f (Over-power_terms n f k h) h

-- of the whole
pub Over-expanded : (n : ℕ) (e : Tree) → Over n (expanded n e)
Over-expanded n (Num c) = (length-zeros n, tt)
Over-expanded n (Input v) = (length-unit_vector n v, tt)
Over-expanded n (Name j) = tt
Over-expanded n (Neg e) = Over-negated n (expanded n e) (Over-expanded n e)
Over-expanded n (Add e f) = Over-append n (expanded n e) (expanded n f) (Over-expanded n e) (Over-expanded n f)
Over-expanded n (Sub e f) = Over-append n (expanded n e) (negated (expanded n f)) (Over-expanded n e) (Over-negated n (expanded n f) (Over-expanded n f))
Over-expanded n (Mul e f) = Over-times n (expanded n e) (expanded n f) (Over-expanded n e) (Over-expanded n f)
Over-expanded n (Pow e k) = Over-power_terms n (expanded n e) k (Over-expanded n e)

-- the coefficient at a of a list of terms at x plus the infinitesimals of p
abbrev pub shifted : (ℕ → Bool) → (ℕ → ℤ) → List ℕ → List Term → ℤ
shifted p x a f = sum_over (λ t. t.factor *ℤ tau p x t.exponents a) f

-- the coefficient of the other sign
pub shifted-negated : (p : ℕ → Bool) (x : ℕ → ℤ) (a : List ℕ) (f : List Term) → shifted p x a (negated f) ≡ neg_ℤ (shifted p x a f)
shifted-negated p x a [] = refl
shifted-negated p x a (t ∷ f) = omega (
  arith,
  ints,
  shifted-negated p x a f,
  mul_comm (neg_ℤ t.factor) (tau p x t.exponents a),
  mul_neg (tau p x t.exponents a) t.factor,
  mul_comm (tau p x t.exponents a) t.factor,
)

module _ (p : ℕ → Bool) (x : ℕ → ℤ) where
  -- the coefficient of a product with a term
  shifted-times_term : (a : List ℕ) (t : Term) (g : List Term) → length t.exponents ≡ length a → Over (length a) g
      → shifted p x a (times_term t g) ≡ sum_splits a (λ b c. (t.factor *ℤ tau p x t.exponents b) *ℤ shifted p x c g)
  shifted-times_term a t [] e h =
      sym (sum_splits-zero a) ∙ sum_splits-same a (λ b c. pos 0) (λ b c. (t.factor *ℤ tau p x t.exponents b) *ℤ pos 0) (λ b c. omega (arith, ints))
  shifted-times_term a t (s ∷ g) e h =
      let w : List ℕ → ℤ = λ b. t.factor *ℤ tau p x t.exponents b in
      let first : (t.factor *ℤ s.factor) *ℤ tau p x (plus t.exponents s.exponents) a ≡ sum_splits a (λ b c. w b *ℤ (s.factor *ℤ tau p x s.exponents c)) =
      ap (λ z. (t.factor *ℤ s.factor) *ℤ z) (tau_plus p x t.exponents s.exponents a e h.0)
      ∙ sym (sum_splits-scale a (t.factor *ℤ s.factor) (λ b c. tau p x t.exponents b *ℤ tau p x s.exponents c))
      ∙ sum_splits-same a (λ b c. (t.factor *ℤ s.factor) *ℤ (tau p x t.exponents b *ℤ tau p x s.exponents c))
      (λ b c. w b *ℤ (s.factor *ℤ tau p x s.exponents c)) (λ b c. four t.factor s.factor (tau p x t.exponents b) (tau p x s.exponents c)) in
      ap (λ z. z +ℤ shifted p x a (times_term t g)) first
      ∙ ap (λ z. sum_splits a (λ b c. w b *ℤ (s.factor *ℤ tau p x s.exponents c)) +ℤ z) (shifted-times_term a t g e h.1)
      ∙ sym (sum_splits-add a (λ b c. w b *ℤ (s.factor *ℤ tau p x s.exponents c)) (λ b c. w b *ℤ shifted p x c g))
      ∙ sum_splits-same a (λ b c. w b *ℤ (s.factor *ℤ tau p x s.exponents c) +ℤ w b *ℤ shifted p x c g) (λ b c. w b *ℤ shifted p x c (s ∷ g))
      (λ b c. sym (mul_add (w b) (s.factor *ℤ tau p x s.exponents c) (shifted p x c g)))

  -- the coefficient of a product is the sum over all splits
  pub shifted-times : (a : List ℕ) (f g : List Term) → Over (length a) f → Over (length a) g
      → shifted p x a (times f g) ≡ sum_splits a (λ b c. shifted p x b f *ℤ shifted p x c g)
  shifted-times a [] g h k = sym (sum_splits-zero a) ∙ sum_splits-same a (λ b c. pos 0) (λ b c. pos 0 *ℤ shifted p x c g) (λ b c. omega (arith, ints))
  shifted-times a (t ∷ f) g h k =
      let w : List ℕ → ℤ = λ b. t.factor *ℤ tau p x t.exponents b in
      sum_over-append (λ t. t.factor *ℤ tau p x t.exponents a) (times_term t g) (times f g)
      ∙ ap (λ z. z +ℤ shifted p x a (times f g)) (shifted-times_term a t g h.0 k)
      ∙ ap (λ z. sum_splits a (λ b c. w b *ℤ shifted p x c g) +ℤ z) (shifted-times a f g h.1 k)
      ∙ sym (sum_splits-add a (λ b c. w b *ℤ shifted p x c g) (λ b c. shifted p x b f *ℤ shifted p x c g))
      ∙ sum_splits-same a (λ b c. w b *ℤ shifted p x c g +ℤ shifted p x b f *ℤ shifted p x c g) (λ b c. shifted p x b (t ∷ f) *ℤ shifted p x c g)
      (λ b c. omega (
        arith,
        ints,
        mul_comm (w b) (shifted p x c g),
        mul_comm (shifted p x b f) (shifted p x c g),
        mul_add (shifted p x c g) (w b) (shifted p x b f),
        mul_comm (shifted p x c g) (w b +ℤ shifted p x b f),
      ))
