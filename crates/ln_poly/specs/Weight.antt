-- The weight of a polynomial, pair by pair.
use Rattle.std.specs.Prelude.{◌≡◌, ℕ, ◌+◌, List, Option, Some, None, slice_get, ◌*◌, ◌≤◌, ◌^◌, ℤ, unsigned_abs, [], ◌∷◌, take}
use Rattle.std.specs.List.{sum_by}
use Rattle.ln_bound.specs.Light.{most}
use Rattle.ln_bound.specs.Value.{size_of}
use Rattle.ln_tree.specs.Exps.{Pairs}
use Rattle.ln_tree.specs.declared.shape.VarInfo.{VarInfo}
use Rattle.ln_poly.specs.Sparse.{Sparse}

-- M of a variable, and n more
abbrev pub grown_or : ℕ → Option VarInfo → ℕ
grown_or n None = 0
grown_or n (Some i) = size_of i + n

-- that of variable number v: its M where n is 0, its w where n is 1
abbrev pub grown : ℕ → List VarInfo → ℕ → ℕ
grown n vars v = grown_or n (slice_get vars v)

-- the value of the monomial of these pairs at the weights w
abbrev pub pairs_weight : (ℕ → ℕ) → Pairs → ℕ
pairs_weight w [] = 1
pairs_weight w (p ∷ ps) = w p.0 ^ p.1 * pairs_weight w ps

-- the weight of a term
abbrev pub term_weight : (ℕ → ℕ) → Pairs × ℤ → ℕ
term_weight w t = unsigned_abs t.1 * pairs_weight w t.0

-- the weight of all terms
unfoldable pub total_weight : (ℕ → ℕ) → Sparse → ℕ
total_weight w f = sum_by (term_weight w) f

-- a product of a factor and the first pairs
pub record IsWeighed (p c : ℕ) (w : ℕ → ℕ) (ps : Pairs) (i : ℕ) : Type 0 where
  pub product : p ≡ c * pairs_weight w (take i ps)
  pub small : p ≤ most
