-- The absolute coefficients of a normal polynomial are together at most the running size, that is at most the size, and that at most the weight.
use Rattle.std.proofs.Common.{◌≡◌, ℕ, ◌^◌, ◌<◌, ◌≤◌, List, [], ◌∷◌, refl, zero, suc, arith}
use Rattle.std.proofs.lemmas.Nat.{mul-le}
use Rattle.std.proofs.Math.Nat.{pow-suc, pow-zero, pow-le-pow_left}
use Rattle.ln_algebra.specs.Sizes.{coefficient_sum, one, two}
use Rattle.ln_algebra.specs.Terms.{Term, IsCollected, IsNormalOf}
use Rattle.ln_algebra.specs.Tree.{Tree, Num, Input, Name, Neg, Add, Sub, Mul, Pow, InputsBelow}
use Rattle.ln_algebra.specs.Weights.{weight, weighted_sum, monomial_weight}
use Rattle.ln_algebra.proofs.Bounding.Weights.{weighted-normal}

one_power : (n : ℕ) → 1 ^ n ≡ 1
one_power zero = pow-zero 1
one_power (suc n) = let e = pow-suc 1 n in let ih = one_power n in omega (arith, e, ih)

-- where each variable weighs 1, so does each monomial
monomial_one : (m : List ℕ) → monomial_weight one m ≡ 1
monomial_one [] = refl
monomial_one (n ∷ m) = let e = one_power n in let ih = monomial_one m in rw (e, ih) refl

-- the sum of the absolute coefficients is the weighted sum where each variable weighs 1
pub sum_one : (f : List Term) → coefficient_sum f ≡ weighted_sum one f
sum_one [] = refl
sum_one (t ∷ f) = let e = monomial_one t.exponents in let ih = sum_one f in rw (e, ih) (omega arith)

-- a weight grows with those of the variables
pub weight_more : (n : ℕ) (v w : ℕ → ℕ) (e : Tree) → InputsBelow n e → ((k : ℕ) → k < n → v k ≤ w k) → weight v e ≤ weight w e
weight_more n v w (Num c) i h = omega arith
weight_more n v w (Input k) i h = h k i
weight_more n v w (Name j) i h = omega arith
weight_more n v w (Neg e) i h = weight_more n v w e i h
weight_more n v w (Add e f) i h = let p = weight_more n v w e i.0 h in let q = weight_more n v w f i.1 h in omega (arith, p, q)
weight_more n v w (Sub e f) i h = let p = weight_more n v w e i.0 h in let q = weight_more n v w f i.1 h in omega (arith, p, q)
weight_more n v w (Mul e f) i h = mul-le _ _ _ _ (weight_more n v w e i.0 h) (weight_more n v w f i.1 h)
weight_more n v w (Pow e k) i h = pow-le-pow_left (weight_more n v w e i h) k

-- the running size is at most the size
pub running_size : (e : Tree) → weight one e ≤ weight two e
running_size (Num c) = omega arith
running_size (Input v) = omega arith
running_size (Name j) = omega arith
running_size (Neg e) = running_size e
running_size (Add e f) = let p = running_size e in let q = running_size f in omega (arith, p, q)
running_size (Sub e f) = let p = running_size e in let q = running_size f in omega (arith, p, q)
running_size (Mul e f) = mul-le _ _ _ _ (running_size e) (running_size f)
running_size (Pow e k) = pow-le-pow_left (running_size e) k

-- the absolute coefficients of a collected normal polynomial are together at most the running size
pub sum_running : (n : ℕ) (e : Tree) (f : List Term) → InputsBelow n e → IsNormalOf n e f → IsCollected f → coefficient_sum f ≤ weight one e
sum_running n e f i h c = let s = sum_one f in let w = weighted-normal n e f one i h c in omega (arith, s, w)

-- and so at most the size
pub sum_size : (n : ℕ) (e : Tree) (f : List Term) → InputsBelow n e → IsNormalOf n e f → IsCollected f → coefficient_sum f ≤ weight two e
sum_size n e f i h c = let s = sum_running n e f i h c in let g = running_size e in omega (arith, s, g)

-- the size is at most the weight where each variable weighs at least 2
pub size_weight : (n : ℕ) (w : ℕ → ℕ) (e : Tree) → InputsBelow n e → ((v : ℕ) → v < n → 2 ≤ w v) → weight two e ≤ weight w e
size_weight n w e i h = weight_more n two w e i h
