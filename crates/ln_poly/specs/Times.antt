-- The exponents of a product.
use Rattle.std.specs.Prelude.{◌≡◌, ℕ, ◌+◌, ◌<◌, ◌≤◌, ◌⊎◌, eqb, [], ◌∷◌, length, slice_index_or, take, if◌then◌else◌}
use Rattle.ln_tree.specs.Exps.{AllAbove, IsAbove, IsRising, Pairs, exponent}

-- what one pair adds to the exponent of v
abbrev pub power_at : ℕ → ℕ × ℕ → ℕ
power_at v p = if eqb p.0 v then p.1 else 0

-- the variable at place i
abbrev pub variable_at : Pairs → ℕ → ℕ
variable_at ps i = (slice_index_or ps i (0, 0)).0

-- v is the lowest variable from place i of the first on and place j of the second on, and is at one of them
pub record IsLowest (a b : Pairs) (i j v : ℕ) : Type 0 where
  pub left : i < length a → v ≤ variable_at a i
  pub right : j < length b → v ≤ variable_at b j
  pub one : ((i < length a) × (variable_at a i ≡ v)) ⊎ ((j < length b) × (variable_at b j ≡ v))

-- from place i to j there is the pair of v and e, or nothing, where e is 0; what comes after j is above v
pub record IsPassed (ps : Pairs) (i v e j : ℕ) : Type 0 where
  pub within : j ≤ length ps
  pub exponents : (w : ℕ) → exponent w (take j ps) ≡ exponent w (take i ps) + power_at w (v, e)
  pub above : j < length ps → v < variable_at ps j
  pub some : i < length ps → variable_at ps i ≡ v → (0 < e) × (i < j)
  pub further : i ≤ j

-- each variable of the first is below each of the second
abbrev pub AreLow : Pairs → Pairs → Type 0
AreLow [] ps = Unit {0}
AreLow (p ∷ out) ps = AllAbove p.0 ps × AreLow out ps

-- out has the exponents of a and b up to places i and j, and the variables there are above it
pub record IsMerged (out a b : Pairs) (i j : ℕ) : Type 0 where
  pub left : i ≤ length a
  pub right : j ≤ length b
  pub exponents : (w : ℕ) → exponent w out ≡ exponent w (take i a) + exponent w (take j b)
  pub low_left : i < length a → IsAbove out (variable_at a i)
  pub low_right : j < length b → IsAbove out (variable_at b j)

-- out has the exponents of the product of the monomials a and b
abbrev pub IsTimes : Pairs → Pairs → Pairs → Type 0
IsTimes out a b = ((v : ℕ) → exponent v out ≡ exponent v a + exponent v b) × IsRising out
