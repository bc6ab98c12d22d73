-- Weights: bounds on the values of an expression and of a polynomial where the absolute value of each variable v is at most w v.
use Rattle.std.specs.Prelude.{ℕ, ◌+◌, ◌*◌, ◌^◌, unsigned_abs, List, [], ◌∷◌}
use Rattle.std.proofs.Common.{suc}
use Rattle.ln_algebra.specs.Terms.{Term}
use Rattle.ln_algebra.specs.Tree.{Tree, Num, Input, Name, Neg, Add, Sub, Mul, Pow}

-- The weight of a closed tree: the absolute value of a number, w v of variable v, the sum for a sum or difference, the product
-- for a product, the power for a power.
abbrev pub weight : (ℕ → ℕ) → Tree → ℕ
weight w (Num c) = unsigned_abs c
weight w (Input v) = w v
weight w (Name j) = 0
weight w (Neg e) = weight w e
weight w (Add e f) = weight w e + weight w f
weight w (Sub e f) = weight w e + weight w f
weight w (Mul e f) = weight w e * weight w f
weight w (Pow e n) = weight w e ^ n

-- The value of the monomial m at the weights w.
abbrev pub monomial_weight : (ℕ → ℕ) → List ℕ → ℕ
monomial_weight w [] = 1
monomial_weight w (n ∷ m) = w 0 ^ n * monomial_weight (λ v. w (suc v)) m

-- The w-weighted sum of a list of terms: the sum of the absolute factors, each times the value of its monomial at the weights w.
abbrev pub weighted_sum : (ℕ → ℕ) → List Term → ℕ
weighted_sum w [] = 0
weighted_sum w (t ∷ f) = unsigned_abs t.factor * monomial_weight w t.exponents + weighted_sum w f
