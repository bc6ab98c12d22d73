-- The Taylor factor of a monomial, and Vandermonde's identity.
use Rattle.std.proofs.Common.{◌≡◌, ℕ, ◌+◌, zero, suc, refl, sym, ◌∙◌, ap, arith, List, [], ◌∷◌}
use Rattle.std.proofs.Math.Nat.{suc-add, zero-add}
use Rattle.std.proofs.lemmas.Int.{ints}
use Rattle.std.proofs.Math.IntN.{ℤ, pos, ◌+ℤ◌, ◌*ℤ◌}
use Rattle.ln_algebra.proofs.Expanded.Ring.{mul_add, mul_assoc, mul_comm, one_mul}
use Rattle.ln_algebra.proofs.Expanded.Sums.{sum_parts, sum_splits}

-- ---- laws of the two sums
-- sums of equal terms are equal
pub sum_parts-same : (n : ℕ) (f g : ℕ → ℕ → ℤ) → ((i j : ℕ) → f i j ≡ g i j) → sum_parts n f ≡ sum_parts n g
sum_parts-same zero f g h = h 0 0
sum_parts-same (suc n) f g h = omega (arith, ints, h 0 (suc n), sum_parts-same n (λ i j. f (suc i) j) (λ i j. g (suc i) j) (λ i j. h (suc i) j))

-- the sum of sums
pub sum_parts-add : (n : ℕ) (f g : ℕ → ℕ → ℤ) → sum_parts n (λ i j. f i j +ℤ g i j) ≡ sum_parts n f +ℤ sum_parts n g
sum_parts-add zero f g = refl
sum_parts-add (suc n) f g = omega (arith, ints, sum_parts-add n (λ i j. f (suc i) j) (λ i j. g (suc i) j))

-- a common factor moves out
pub sum_parts-scale : (n : ℕ) (c : ℤ) (f : ℕ → ℕ → ℤ) → sum_parts n (λ i j. c *ℤ f i j) ≡ c *ℤ sum_parts n f
sum_parts-scale zero c f = refl
sum_parts-scale (suc n) c f = omega (arith, ints, sum_parts-scale n c (λ i j. f (suc i) j), mul_add c (f 0 (suc n)) (sum_parts n (λ i j. f (suc i) j)))

-- a sum of zeros is 0
pub sum_parts-zero : (n : ℕ) → sum_parts n (λ i j. pos 0) ≡ pos 0
sum_parts-zero zero = refl
sum_parts-zero (suc n) = omega (arith, ints, sum_parts-zero n)

-- over vectors: sums of equal terms are equal
pub sum_splits-same : (a : List ℕ) (f g : List ℕ → List ℕ → ℤ) → ((b c : List ℕ) → f b c ≡ g b c) → sum_splits a f ≡ sum_splits a g
sum_splits-same [] f g h = h [] []
sum_splits-same (n ∷ a) f g h = sum_parts-same n (λ i j. sum_splits a (λ b c. f (i ∷ b) (j ∷ c))) (λ i j. sum_splits a (λ b c. g (i ∷ b) (j ∷ c)))
    (λ i j. sum_splits-same a (λ b c. f (i ∷ b) (j ∷ c)) (λ b c. g (i ∷ b) (j ∷ c)) (λ b c. h (i ∷ b) (j ∷ c)))

-- the sum of sums
pub sum_splits-add : (a : List ℕ) (f g : List ℕ → List ℕ → ℤ) → sum_splits a (λ b c. f b c +ℤ g b c) ≡ sum_splits a f +ℤ sum_splits a g
sum_splits-add [] f g = refl
sum_splits-add (n ∷ a) f g =
    sum_parts-same n (λ i j. sum_splits a (λ b c. f (i ∷ b) (j ∷ c) +ℤ g (i ∷ b) (j ∷ c))) (λ i j. sum_splits a (λ b c. f (i ∷ b) (j ∷ c))
    +ℤ sum_splits a (λ b c. g (i ∷ b) (j ∷ c))) (λ i j. sum_splits-add a (λ b c. f (i ∷ b) (j ∷ c)) (λ b c. g (i ∷ b) (j ∷ c)))
    ∙ sum_parts-add n (λ i j. sum_splits a (λ b c. f (i ∷ b) (j ∷ c))) (λ i j. sum_splits a (λ b c. g (i ∷ b) (j ∷ c)))

-- a common factor moves out
pub sum_splits-scale : (a : List ℕ) (x : ℤ) (f : List ℕ → List ℕ → ℤ) → sum_splits a (λ b c. x *ℤ f b c) ≡ x *ℤ sum_splits a f
sum_splits-scale [] x f = refl
sum_splits-scale (n ∷ a) x f =
    sum_parts-same n (λ i j. sum_splits a (λ b c. x *ℤ f (i ∷ b) (j ∷ c))) (λ i j. x *ℤ sum_splits a (λ b c. f (i ∷ b) (j ∷ c)))
    (λ i j. sum_splits-scale a x (λ b c. f (i ∷ b) (j ∷ c)))
    ∙ sum_parts-scale n x (λ i j. sum_splits a (λ b c. f (i ∷ b) (j ∷ c)))

-- a sum of zeros is 0
pub sum_splits-zero : (a : List ℕ) → sum_splits a (λ b c. pos 0) ≡ pos 0
sum_splits-zero [] = refl
sum_splits-zero (n ∷ a) = sum_parts-same n (λ i j. sum_splits a (λ b c. pos 0)) (λ i j. pos 0) (λ i j. sum_splits-zero a) ∙ sum_parts-zero n

-- ---- one variable: the coefficient of e^k in (x + e)^n
-- by recursion on n
abbrev pub taylor : ℤ → ℕ → ℕ → ℤ
taylor x zero zero = pos 1
taylor x zero (suc k) = pos 0
taylor x (suc n) zero = x *ℤ taylor x n zero
taylor x (suc n) (suc k) = x *ℤ taylor x n (suc k) +ℤ taylor x n k

-- the power 0 adds nothing
taylor_none : (x : ℤ) (a k : ℕ) → sum_parts a (λ b c. taylor x 0 b *ℤ taylor x k c) ≡ taylor x k a
taylor_none x zero k = one_mul (taylor x k 0)
taylor_none x (suc a) k =
    let z : sum_parts a (λ b c. pos 0 *ℤ taylor x k c) ≡ pos 0 =
    sum_parts-same a (λ b c. pos 0 *ℤ taylor x k c) (λ b c. pos 0) (λ b c. omega (arith, ints)) ∙ sum_parts-zero a in
    omega (arith, ints, z)

-- Vandermonde's identity
pub vandermonde : (x : ℤ) (n k a : ℕ) → taylor x (n + k) a ≡ sum_parts a (λ b c. taylor x n b *ℤ taylor x k c)
vandermonde x zero k a = rw zero-add (sym (taylor_none x a k))
vandermonde x (suc n) k zero = rw suc-add (ap (λ t. x *ℤ t) (vandermonde x n k zero) ∙ sym (mul_assoc x (taylor x n 0) (taylor x k 0)))
vandermonde x (suc n) k (suc a) =
    let tk : ℕ → ℤ = taylor x k in
    let upper : ℕ → ℕ → ℤ = λ b c. taylor x n (suc b) *ℤ taylor x k c in
    let lower : ℕ → ℕ → ℤ = λ b c. taylor x n b *ℤ taylor x k c in
    let whole : sum_parts a (λ b c. taylor x (suc n) (suc b) *ℤ taylor x k c) ≡ x *ℤ sum_parts a upper +ℤ sum_parts a lower =
    sum_parts-same a (λ b c. taylor x (suc n) (suc b) *ℤ taylor x k c) (λ b c. x *ℤ upper b c +ℤ lower b c) (λ b c. omega (
      arith,
      ints,
      mul_comm (taylor x k c) (x *ℤ taylor x n (suc b) +ℤ taylor x n b),
      mul_add (taylor x k c) (x *ℤ taylor x n (suc b)) (taylor x n b),
      mul_comm (taylor x k c) (x *ℤ taylor x n (suc b)),
      mul_comm (taylor x k c) (taylor x n b),
      mul_assoc x (taylor x n (suc b)) (taylor x k c),
    ))
    ∙ sum_parts-add a (λ b c. x *ℤ upper b c) lower
    ∙ ap (λ t. t +ℤ sum_parts a lower) (sum_parts-scale a x upper) in
    rw suc-add (omega (
      arith,
      ints,
      whole,
      vandermonde x n k a,
      ap (λ t. x *ℤ t) (vandermonde x n k (suc a)),
      mul_add x (taylor x n 0 *ℤ taylor x k (suc a)) (sum_parts a upper),
      mul_assoc x (taylor x n 0) (taylor x k (suc a)),
    ))
