-- Sums of products of terms.
use Rattle.std.specs.Prelude.{◌≡◌, ℕ, ◌+◌, ◌*◌, ◌≤◌, ◌<◌, ◌*ℤ◌, ℤ, pos, All, List, [], ◌∷◌, ◌++◌, take, if◌then◌else◌}
use Rattle.std.specs.List.{AllZip}
use Rattle.ln_algebra.specs.Vector.{plus, same_vector, sum_over}
use Rattle.ln_tree.specs.Exps.{IsAbove, IsRising, Pairs, exponent, vector}
use Rattle.ln_poly.specs.Sparse.{AreBelow, AreRising, Sparse, coefficient_at, size_of}

-- no exponent of a product of s with a term of g exceeds 127
abbrev pub PowersFit : Pairs × ℤ → Sparse → Type 0
PowersFit s g = All (λ t. (v : ℕ) → exponent v s.0 + exponent v t.0 < 128) g

-- what the product of s and t adds
abbrev pub cell_at : ℕ → List ℕ → Pairs × ℤ → Pairs × ℤ → ℤ
cell_at n m s t = if same_vector (plus (vector n s.0) (vector n t.0)) m then s.1 *ℤ t.1 else pos 0

-- what the products of s with the terms of g add
unfoldable pub row_at : ℕ → List ℕ → Pairs × ℤ → Sparse → ℤ
row_at n m s g = sum_over (cell_at n m s) g

-- x is the product of the terms s and t
pub record IsProduct (x s t : Pairs × ℤ) : Type 0 where
  pub exponents : (v : ℕ) → exponent v x.0 ≡ exponent v s.0 + exponent v t.0
  pub rising : IsRising x.0
  pub factor : x.1 ≡ s.1 *ℤ t.1

-- each is the product of s with a term of g, in the order of g
abbrev pub AreProducts : Pairs × ℤ → Sparse → Sparse → Type 0
AreProducts s g out = AllZip (λ t x. IsProduct x s t) g out

-- out has the products of the first i terms of f with those of g
pub record IsRows (out f g : Sparse) (i : ℕ) : Type 0 where
  pub coefficients : (n : ℕ) (m : List ℕ) → coefficient_at n out m ≡ sum_over (λ s. row_at n m s g) (take i f)
  pub size : size_of out ≤ size_of (take i f) * size_of g
  pub rising : AreRising out
  pub below : (k : ℕ) → AreBelow k f → AreBelow k g → AreBelow k out

-- out is old with the product of s and t appended
pub record IsProductPut (out old : Sparse) (s t : Pairs × ℤ) : Type 0 where
  pub term : Pairs × ℤ
  pub put : out ≡ old ++ (term ∷ [])
  pub product : IsProduct term s t
