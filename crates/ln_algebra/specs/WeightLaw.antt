-- States how weighted sums bound the values of a polynomial, and those of all its scaled derivatives together.
use Rattle.std.specs.Prelude.{◌≡◌, ℕ, ◌+◌, ◌≤◌, true, ℤ, pos, unsigned_abs, List, [], ◌∷◌, length}
use Rattle.ln_algebra.specs.Vector.{covered_by, covers, sum_over}
use Rattle.ln_algebra.specs.Terms.{IsCollected, IsNormalOf, Over, Term, derived, value}
use Rattle.ln_algebra.specs.Tree.{InputsBelow, Tree}
use Rattle.ln_algebra.specs.Weights.{weight, weighted_sum}

-- The vector covers the exponents of each term.
abbrev pub CoversEach : List ℕ → List Term → Type 0
CoversEach bound [] = Unit {0}
CoversEach bound (t ∷ f) = (covers bound t.exponents ≡ true) × CoversEach bound f

-- With w above M by 1 at each variable, the w-weighted sum of a list of terms is the sum, over all a, of the M-weighted sums of
-- its scaled derivatives by a. A bound that covers the exponents of each term covers every a whose derivative isn't empty.
abbrev pub DerivativesWeighTheWhole : Type 0
DerivativesWeighTheWhole =
    (m : ℕ → ℕ) (bound : List ℕ) (f : List Term) → Over (length bound) f → CoversEach bound f →
    sum_over (λ a. pos (weighted_sum m (derived a f))) (covered_by bound) ≡ pos (weighted_sum (λ v. m v + 1) f)

-- The weighted sum of the normal polynomial, with like monomials collected, is at most the weight of the tree.
abbrev pub NormalWeighsAtMostTheTree : Type 0
NormalWeighsAtMostTheTree =
    (n : ℕ) (e : Tree) (f : List Term) (w : ℕ → ℕ) → InputsBelow n e → IsNormalOf n e f → IsCollected f →
    weighted_sum w f ≤ weight w e

-- Where no variable's absolute value is above its weight, no value of a list of terms is above its weighted sum.
abbrev pub ValuesAreWithinWeights : Type 0
ValuesAreWithinWeights =
    (x : ℕ → ℤ) (w : ℕ → ℕ) (f : List Term) → ((v : ℕ) → unsigned_abs (x v) ≤ w v) →
    unsigned_abs (value x f) ≤ weighted_sum w f

-- The M-weighted sum of each scaled derivative is at most the w-weighted sum of the whole, with w above M by 1.
abbrev pub EachDerivativeWeighsLess : Type 0
EachDerivativeWeighsLess =
    (m : ℕ → ℕ) (a : List ℕ) (f : List Term) → weighted_sum m (derived a f) ≤ weighted_sum (λ v. m v + 1) f
