-- Trees no node of which has many terms or large exponents.
use Rattle.std.specs.Prelude.{◌≢◌, ℕ, zero, suc, ◌≤◌, max, pos, List, [], ◌∷◌, length}
use Rattle.std.specs.List.{AllByRecursion}
use Rattle.ln_algebra.specs.Terms.{IsNormalOf, Term}
use Rattle.ln_algebra.specs.Tree.{Tree, Num, Input, Name, Neg, Add, Sub, Mul, Pow}
use Rattle.ln_tree.specs.Exps.{exponent}
use Rattle.ln_poly.specs.Sparse.{Sparse}

-- the exponent of variable v
abbrev pub exponent_of : ℕ → List ℕ → ℕ
exponent_of v [] = 0
exponent_of zero (n ∷ m) = n
exponent_of (suc v) (n ∷ m) = exponent_of v m

-- the largest exponent of variable v in a polynomial
abbrev pub largest : Sparse → ℕ → ℕ
largest [] v = 0
largest (t ∷ f) v = max (exponent v t.0) (largest f v)

-- in no term the exponent of a variable v is above top v
abbrev pub AreUnder : (ℕ → ℕ) → List Term → Type 0
AreUnder top f = AllByRecursion (λ t. (v : ℕ) → exponent_of v t.exponents ≤ top v) f

-- the polynomial of the tree over n variables is the sum of at most this many terms, in none of which the exponent of a variable
-- v is above top v
pub record IsLean (n count : ℕ) (top : ℕ → ℕ) (e : Tree) : Type 0 where
  pub terms : List Term
  pub normal : IsNormalOf n e terms
  pub few : length terms ≤ count
  pub under : AreUnder top terms

-- so is that of each node, and of each lower power on the way to a power
abbrev pub AreLean : ℕ → ℕ → (ℕ → ℕ) → Tree → Type 0
AreLean n count top (Num c) = IsLean n count top (Num c)
AreLean n count top (Input v) = IsLean n count top (Input v)
AreLean n count top (Name j) = IsLean n count top (Name j)
AreLean n count top (Neg e) = AreLean n count top e × IsLean n count top (Neg e)
AreLean n count top (Add e f) = AreLean n count top e × AreLean n count top f × IsLean n count top (Add e f)
AreLean n count top (Sub e f) = AreLean n count top e × AreLean n count top f × IsLean n count top (Sub e f)
AreLean n count top (Mul e f) = AreLean n count top e × AreLean n count top f × IsLean n count top (Mul e f)
AreLean n count top (Pow e k) = AreLean n count top e × ((j : ℕ) → j ≤ k → IsLean n count top (Pow e j))

-- no factor is 0
abbrev pub HasNoZero : List Term → Type 0
HasNoZero f = AllByRecursion (λ t. t.factor ≢ pos 0) f
