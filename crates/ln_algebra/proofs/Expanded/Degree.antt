-- The coefficients above the total_degree are 0; what the splits are.
use Rattle.std.proofs.Common.{◌≡◌, ℕ, ◌+◌, ◌*◌, ◌<◌, ◌≤◌, zero, suc, refl, sym, ◌∙◌, ap, arith, List, [], ◌∷◌, length, Bool, true, false}
use Rattle.std.proofs.Common.{◌&&◌, ◌⊎◌, inl, inr, if◌then◌else◌}
use Rattle.std.proofs.Math.Nat.{zero-add}
use Rattle.std.proofs.lemmas.Int.{ints}
use Rattle.std.proofs.lemmas.Bool.{cases_lt}
use Rattle.std.proofs.Math.IntN.{ℤ, pos, ◌*ℤ◌, neg_ℤ}
use Rattle.ln_algebra.proofs.Expanded.Sums.{sum_parts, sum_splits}
use Rattle.ln_algebra.proofs.Deriving.Taylor.{sum_splits-zero}
use Rattle.ln_algebra.proofs.Expanded.Shift.{product_is}
use Rattle.ln_algebra.specs.Vector.{IsSplit, plus, is_zero, is_unit, total_degree}
use Rattle.ln_algebra.specs.Coefficient.{constant, variable, product, power, coefficient, Series}
use Rattle.ln_algebra.specs.Tree.{Tree, Num, Input, Name, Neg, Add, Sub, Mul, Pow, degree_of}

-- two sums over the parts of n agree where they agree on the parts
pub sum_parts-on : (n : ℕ) (f g : ℕ → ℕ → ℤ) → ((i j : ℕ) → i + j ≡ n → f i j ≡ g i j) → sum_parts n f ≡ sum_parts n g
sum_parts-on zero f g h = h 0 0 refl
sum_parts-on (suc n) f g h =
    omega (arith, ints, h 0 (suc n) (zero-add (suc n)), sum_parts-on n (λ i j. f (suc i) j) (λ i j. g (suc i) j) (λ i j e. h (suc i) j (omega arith)))

-- two sums over the splits of a agree where they agree on the splits
pub sum_splits-on : (a : List ℕ) (f g : List ℕ → List ℕ → ℤ) → ((b c : List ℕ) → IsSplit a b c → f b c ≡ g b c) → sum_splits a f ≡ sum_splits a g
sum_splits-on [] f g h = h [] [] (record { left = refl; right = refl; sum = refl })
sum_splits-on (n ∷ a) f g h =
    sum_parts-on n (λ i j. sum_splits a (λ b c. f (i ∷ b) (j ∷ c))) (λ i j. sum_splits a (λ b c. g (i ∷ b) (j ∷ c)))
    (λ i j e. sum_splits-on a (λ b c. f (i ∷ b) (j ∷ c)) (λ b c. g (i ∷ b) (j ∷ c))
    (λ b c s. h (i ∷ b) (j ∷ c) (record { left = ap suc s.left; right = ap suc s.right; sum = ap (λ z. z ∷ plus b c) e ∙ ap (λ z. n ∷ z) s.sum })))

-- the total degree of a sum is the sum of the total degrees
pub degree-plus : (b c : List ℕ) → length b ≡ length c → total_degree (plus b c) ≡ total_degree b + total_degree c
degree-plus [] [] h = refl
degree-plus [] (k ∷ c) h = absurd (omega arith)
degree-plus (n ∷ b) [] h = absurd (omega arith)
degree-plus (n ∷ b) (k ∷ c) h = omega (arith, degree-plus b c (omega arith))

-- and so that of a split
degree_split : (a b c : List ℕ) → IsSplit a b c → total_degree a ≡ total_degree b + total_degree c
degree_split a b c s = ap total_degree (sym s.sum) ∙ degree-plus b c (s.left ∙ sym s.right)

-- a vector of degree above 0 isn't the vector of zeros
is_zero-degree : (a : List ℕ) → 0 < total_degree a → is_zero a ≡ false
is_zero-degree [] h = absurd (omega arith)
is_zero-degree (zero ∷ a) h = is_zero-degree a (omega arith)
is_zero-degree (suc n ∷ a) h = refl

-- a vector of degree above 1 is no unit vector
is_unit-degree : (v : ℕ) (a : List ℕ) → 1 < total_degree a → is_unit v a ≡ false
is_unit-degree v [] h = absurd (omega arith)
is_unit-degree zero (zero ∷ a) h = refl
is_unit-degree zero (suc zero ∷ a) h = is_zero-degree a (omega arith)
is_unit-degree zero (suc (suc n) ∷ a) h = refl
is_unit-degree (suc v) (zero ∷ a) h = is_unit-degree v a (omega arith)
is_unit-degree (suc v) (suc n ∷ a) h = refl

-- a number has degree 0
constant-above : (c : ℤ) (a : List ℕ) → 0 < total_degree a → constant c a ≡ pos 0
constant-above c a h = rw is_zero-degree refl

-- zero above d
abbrev pub Above : ℕ → Series → Type 0
Above d f = (a : List ℕ) → d < total_degree a → f a ≡ pos 0

-- the degree of a product is at most the sum of the degrees
product-above : (d e : ℕ) (f g : Series) → Above d f → Above e g → Above (d + e) (product f g)
product-above d e f g h k a l =
    product_is f g a
    ∙ sum_splits-on a (λ b c. f b *ℤ g c) (λ b c. pos 0) (λ b c s. by_case b c (cases_lt d (total_degree b)) (degree_split a b c s))
    ∙ sum_splits-zero a where
      by_case : (b c : List ℕ) → (d < total_degree b) ⊎ (total_degree b ≤ d) → total_degree a ≡ total_degree b + total_degree c → f b *ℤ g c ≡ pos 0
      by_case b c (inl u) q = ap (λ z. z *ℤ g c) (h b u) ∙ (let z : pos 0 *ℤ g c ≡ pos 0 = omega (arith, ints) in z)
      by_case b c (inr u) q = ap (λ z. f b *ℤ z) (k c (omega arith)) ∙ (let z : f b *ℤ pos 0 ≡ pos 0 = omega (arith, ints) in z)

-- the degree of a power is at most n times the degree
power-above : (d : ℕ) (f : Series) → Above d f → (n : ℕ) → Above (n * d) (power f n)
power-above d f h zero a l = constant-above (pos 1) a (omega arith)
power-above d f h (suc n) a l = product-above (n * d) d (power f n) f (power-above d f h n) h a (omega arith)

-- a variable has degree at most 1
variable-above : (p : Bool) (v : ℕ) (x : ℤ) → Above 1 (variable p v x)
variable-above p v x a l = rw (is_zero-degree a (omega arith))
    (rw (is_unit-degree v a l) (elim p as (λ b. (if b && false then pos 1 else pos 0) ≡ pos 0) [ true ↦ refl | false ↦ refl ]))

-- the coefficients are 0 above the degree
pub coefficient-above : (p : ℕ → Bool) (x : ℕ → ℤ) (e : Tree) → Above (degree_of e) (coefficient p x e)
coefficient-above p x (Num c) a l = constant-above c a l
coefficient-above p x (Input v) a l = variable-above (p v) v (x v) a l
coefficient-above p x (Name j) a l = constant-above (pos 0) a l
coefficient-above p x (Neg e) a l = ap neg_ℤ (coefficient-above p x e a l)
coefficient-above p x (Add e f) a l = omega (arith, ints, coefficient-above p x e a (omega arith), coefficient-above p x f a (omega arith))
coefficient-above p x (Sub e f) a l = omega (arith, ints, coefficient-above p x e a (omega arith), coefficient-above p x f a (omega arith))
coefficient-above p x (Mul e f) a l =
    product-above (degree_of e) (degree_of f) (coefficient p x e) (coefficient p x f) (coefficient-above p x e) (coefficient-above p x f) a l
coefficient-above p x (Pow e n) a l = power-above (degree_of e) (coefficient p x e) (coefficient-above p x e) n a l
