-- Polynomials as lists of pairs: exponents and a factor.
use Rattle.std.specs.Prelude.{◌≡◌, ℕ, ◌<◌, ◌^◌, ◌≢◌, ℤ, neg_ℤ, pos, unsigned_abs, All, List, map, if◌then◌else◌}
use Rattle.std.specs.List.{sum_by}
use Rattle.std.specs.List.Sorted.{IsStrictlySortedBy}
use Rattle.std.specs.Ordering.{on}
use Rattle.std.specs.declared.cmp.Ordering.TheVariants.{Less}
use Rattle.ln_algebra.specs.Terms.{Term, factor_at, same_vector}
use Rattle.ln_tree.specs.Exps.{Pairs, IsAbove, IsRising, pairs_cmp, vector}

-- the terms of a polynomial, each its exponents and its factor
abbrev pub Sparse : Type 0
Sparse = List (Pairs × ℤ)

-- a term over n variables
abbrev pub term_of : ℕ → Pairs × ℤ → Term
term_of n t = record { exponents = vector n t.0; factor = t.1 }

-- the terms over n variables
abbrev pub terms_of : ℕ → Sparse → List Term
terms_of n f = map (term_of n) f

-- the coefficient at the vector m of n exponents
unfoldable pub coefficient_at : ℕ → Sparse → List ℕ → ℤ
coefficient_at n f m = factor_at (terms_of n f) m

-- what one term adds to it
unfoldable pub part_at : ℕ → Pairs × ℤ → List ℕ → ℤ
part_at n t m = if same_vector (vector n t.0) m then t.1 else pos 0

-- the sum of the absolute factors
unfoldable pub size_of : Sparse → ℕ
size_of f = sum_by (λ t. unsigned_abs t.1) f

-- the exponents of the terms
abbrev pub exps_of : Sparse → List Pairs
exps_of f = map (λ t. t.0) f

-- the terms with the other sign
abbrev pub negated : Sparse → Sparse
negated f = map (λ t. (t.0, neg_ℤ t.1)) f

-- each term has rising pairs
abbrev pub AreRising : Sparse → Type 0
AreRising f = All (λ t. IsRising t.0) f

-- each variable is below n
abbrev pub AreBelow : ℕ → Sparse → Type 0
AreBelow n f = All (λ t. IsAbove t.0 n) f

-- a factor: not 0, and within 2^127 - 1
abbrev pub IsFactor : ℤ → Type 0
IsFactor z = (z ≢ pos 0) × (unsigned_abs z < 2 ^ 127)

-- the lexicographic order of monomials
abbrev pub ComesBefore : Pairs → Pairs → Type 0
ComesBefore a b = pairs_cmp a b ≡ Less

-- the monomials rise in their lexicographic order, so no two terms have the same
abbrev pub AreSorted : Sparse → Type 0
AreSorted f = IsStrictlySortedBy (on (λ t. t.0) pairs_cmp) f

-- a polynomial: the monomials rise in their lexicographic order, so no two terms have the same, and each factor is one
pub record IsPoly (f : Sparse) : Type 0 where
  pub sorted : AreSorted f
  pub rising : AreRising f
  pub factors : All (λ t. IsFactor t.1) f
