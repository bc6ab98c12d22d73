-- Sizes: what bounds the coefficients of an expression's normal polynomial, whatever the ranges of its variables are.
use Rattle.std.specs.Prelude.{ℕ, ◌+◌, ◌≤◌, ◌<◌, unsigned_abs, List, [], ◌∷◌}
use Rattle.ln_algebra.specs.Terms.{Term, IsCollected, IsNormalOf}
use Rattle.ln_algebra.specs.Tree.{InputsBelow, Tree}
use Rattle.ln_algebra.specs.Weights.{weight}

-- Each variable counts 1.
abbrev pub one : ℕ → ℕ
one v = 1

-- Each variable counts 2.
abbrev pub two : ℕ → ℕ
two v = 2

-- The running size of a closed tree: the absolute value of a number, 1 for a variable, the sum for a sum or difference, the
-- product for a product, the power for a power.
abbrev pub running_size : Tree → ℕ
running_size e = weight one e

-- Its size: the same with 2 for a variable.
abbrev pub size : Tree → ℕ
size e = weight two e

-- The sum of the absolute coefficients of a list of terms.
abbrev pub coefficient_sum : List Term → ℕ
coefficient_sum [] = 0
coefficient_sum (t ∷ f) = unsigned_abs t.factor + coefficient_sum f

-- The absolute coefficients of the normal polynomial, with like monomials collected, are together at most the running size of the tree.
abbrev pub CoefficientsAreWithinTheRunningSize : Type 0
CoefficientsAreWithinTheRunningSize =
    (n : ℕ) (e : Tree) (f : List Term) → InputsBelow n e → IsNormalOf n e f → IsCollected f → coefficient_sum f ≤ running_size e

-- So they are at most its size.
abbrev pub CoefficientsAreWithinTheSize : Type 0
CoefficientsAreWithinTheSize =
    (n : ℕ) (e : Tree) (f : List Term) → InputsBelow n e → IsNormalOf n e f → IsCollected f → coefficient_sum f ≤ size e

-- Where each variable weighs at least 2, the size is at most the weight.
abbrev pub SizesAreWithinWeights : Type 0
SizesAreWithinWeights =
    (n : ℕ) (w : ℕ → ℕ) (e : Tree) → InputsBelow n e → ((v : ℕ) → v < n → 2 ≤ w v) → size e ≤ weight w e

-- The running size is at most the size.
abbrev pub RunningSizesAreWithinSizes : Type 0
RunningSizesAreWithinSizes = (e : Tree) → running_size e ≤ size e
