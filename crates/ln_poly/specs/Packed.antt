-- Monomials as numbers: each variable has a field of bits, lower variables higher ones.
use Rattle.std.specs.Prelude.{ℕ, zero, suc, ◌+◌, ◌-◌, ◌*◌, ◌/◌, ◌^◌, ◌<◌, ◌≤◌, All, List, [], ◌∷◌, length, map}
use Rattle.std.specs.List.{AllByRecursion}
use Rattle.ln_tree.specs.Exps.{Pairs, exponent}
use Rattle.ln_poly.specs.Keyed.{Keyed}
use Rattle.ln_poly.specs.Lean.{largest}
use Rattle.ln_poly.specs.Rows.{PowersFit}
use Rattle.ln_poly.specs.Sparse.{AreBelow, Sparse}

-- the number of the exponents m, from variable v on: each times the weight of its field
abbrev pub number : List ℕ → ℕ → (ℕ → ℕ) → ℕ
number [] v m = 0
number (w ∷ ws) v m = m v * w + number ws (suc v) m

-- the fields lie below `left`, each below the one before it and wide enough for the largest exponent of its variable
abbrev pub AreFields : (ℕ → ℕ) → ℕ → ℕ → List ℕ → Type 0
AreFields top left v [] = Unit {0}
AreFields top left v (w ∷ ws) = (0 < w) × (top v * w + w ≤ left) × AreFields top w (suc v) ws

-- the weights of fields that begin at these bits
abbrev pub weights : List ℕ → List ℕ
weights shifts = map (λ s. 2 ^ s) shifts

-- the number of a monomial
abbrev pub packed : List ℕ → Pairs → ℕ
packed ws ps = number ws 0 (λ v. exponent v ps)

-- the exponents of a number, first variables first
abbrev pub taken : List ℕ → ℕ → List ℕ
taken [] k = []
taken (w ∷ ws) k = (k / w) ∷ taken ws (k - (k / w) * w)

-- the pairs of these exponents, from variable v on
abbrev pub pairs_from : ℕ → List ℕ → Pairs
pairs_from v [] = []
pairs_from v (zero ∷ m) = pairs_from (suc v) m
pairs_from v (suc k ∷ m) = (v, suc k) ∷ pairs_from (suc v) m

-- the monomial of a number
abbrev pub opened : List ℕ → ℕ → Pairs
opened ws k = pairs_from 0 (taken ws k)

-- each exponent is below 128
abbrev pub AreSmall : List ℕ → Type 0
AreSmall m = AllByRecursion (λ e. e < 128) m

-- the terms with numbers for monomials
abbrev pub keyed : List ℕ → Sparse → Keyed
keyed ws f = map (λ t. (packed ws t.0, t.1)) f

-- the terms with the monomials of these numbers
abbrev pub unkeyed : List ℕ → Keyed → Sparse
unkeyed ws ks = map (λ t. (opened ws t.0, t.1)) ks

-- the largest exponents of f and g, taken together
abbrev pub top_of : Sparse → Sparse → ℕ → ℕ
top_of f g v = largest f v + largest g v

-- the products of the terms of f with those of g have numbers below `left`, in these fields
pub record ArePackable (ws : List ℕ) (left : ℕ) (f g : Sparse) : Type 0 where
  pub fields : AreFields (top_of f g) left 0 ws
  pub left_below : AreBelow (length ws) f
  pub right_below : AreBelow (length ws) g
  pub powers : All (λ s. PowersFit s g) f
