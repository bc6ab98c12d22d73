-- Terms whose monomials are numbers, and their sums and products.
use Rattle.std.specs.Prelude.{◌≡◌, ◌⊎◌, ℕ, ◌+◌, ◌*◌, ◌^◌, ◌<◌, ◌≤◌, ℤ, All, ◌*ℤ◌, Bool, List, [], ◌∷◌, length, map, take, ◌-◌}
use Rattle.ln_algebra.specs.Vector.{sum_over}
use Rattle.ln_poly.specs.Merge.{AllKeys, AreInOrder, HaveFactors, passing, weight_of}

-- terms, each a number and a factor
abbrev pub Keyed : Type 0
Keyed = List (ℕ × ℤ)

-- the order of numbers
abbrev pub IsLower : ℕ → ℕ → Type 0
IsLower a b = a < b

-- each number is above b
abbrev pub AreOver : ℕ → Keyed → Type 0
AreOver b f = AllKeys (IsLower b) f

-- the numbers rise
abbrev pub AreAscending : Keyed → Type 0
AreAscending f = AreInOrder IsLower f

-- no number of a product of f with g reaches twice `left` and no size 2 ^ 127; no factor is 0, and the numbers of g rise
pub record ProductsFit (left : ℕ) (f g : Keyed) : Type 0 where
  pub low : All (λ t. t.0 < left) f
  pub low_all : All (λ t. t.0 < left) g
  pub room : weight_of f * weight_of g < 2 ^ 127
  pub factors : HaveFactors f
  pub right : HaveFactors g
  pub ascending : AreAscending g

-- k is the number of a term
abbrev pub Has : Keyed → ℕ → Type 0
Has [] k = ⊥
Has (t ∷ f) k = (t.0 ≡ k) ⊎ Has f k

-- the products of a term with others
abbrev pub row : ℕ × ℤ → Keyed → Keyed
row s g = map (λ t. (s.0 + t.0, s.1 *ℤ t.1)) g

-- k is the sum of a number of f and one of g
pub record IsSumIn (f g : Keyed) (k : ℕ) : Type 0 where
  pub a : ℕ
  pub b : ℕ
  pub left : Has f a
  pub right : Has g b
  pub sum : a + b ≡ k

-- out has the products of the terms of f with those of g, like ones added up
pub record AreAllProducts (out f g : Keyed) : Type 0 where
  pub factors : (test : ℕ → Bool) → passing test out ≡ sum_over (λ s. passing test (row s g)) f
  pub size : weight_of out ≤ weight_of f * weight_of g
  pub ascending : AreAscending out
  pub nonzero : HaveFactors out
  pub sums : AllKeys (IsSumIn f g) out

-- the product of f and g has more than `most` terms: what there is of its first rows has more than those and all products still to come
pub record IsGivenUp (f g : Keyed) (most : ℕ) : Type 0 where
  pub done : Keyed
  pub rows : ℕ
  pub products : AreAllProducts done (take rows f) g
  pub many : most + (length f - rows) * length g < length done
  pub limit : most + 1 < 2 ^ 64
