-- Products with more terms than are wanted.
use Rattle.std.specs.Prelude.{◌≡◌, ◌≢◌, ℕ, pos, ◌+◌, ◌<◌, ◌≤◌, ◌^◌, List, length, Option, IfNone, IfSome}
use Rattle.ln_algebra.specs.Coefficient.{product}
use Rattle.ln_algebra.specs.Vector.{In}
use Rattle.ln_poly.specs.Expansion.{AreDistinct}
use Rattle.ln_poly.specs.Rows.{IsRows}
use Rattle.ln_poly.specs.Sparse.{AreBelow, IsPoly, Sparse, coefficient_at}

-- the product of f and g over n variables has more than k terms: that many different vectors have a coefficient in it that isn't 0
pub record HasMoreTerms (n : ℕ) (f g : Sparse) (k : ℕ) : Type 0 where
  pub vectors : List (List ℕ)
  pub distinct : AreDistinct vectors
  pub sizes : (m : List ℕ) → In vectors m → length m ≡ n
  pub nonzero : (m : List ℕ) → In vectors m → product (coefficient_at n f) (coefficient_at n g) m ≢ pos 0
  pub many : k < length vectors

-- it has them over any variables that f and g have
abbrev pub TakesMore : Sparse → Sparse → ℕ → Type 0
TakesMore f g k = (n : ℕ) → AreBelow n f → AreBelow n g → HasMoreTerms n f g k

-- the product of f and g by the rows of f, where it has at most k terms; where there is none, it has more, and k is below the largest length
pub record IsWithin (f g : Sparse) (k : ℕ) (o : Option Sparse) : Type 0 where
  pub rows : IfSome o (λ h. IsRows h f g (length f))
  pub form : IfSome o IsPoly
  pub few : IfSome o (λ h. length h ≤ k)
  pub none : IfNone o (TakesMore f g k)
  pub limit : IfNone o (k + 1 < 2 ^ 64)
