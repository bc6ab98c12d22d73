-- The normal polynomial of an accepted predicate.
use Rattle.std.specs.Prelude.{◌≡◌, ◌≢◌, ℕ, ◌≤◌, All, List, [], length, slice_get, Some}
use Rattle.ln_algebra.specs.Vector.{total_degree}
use Rattle.ln_algebra.specs.Weights.{weighted_sum}
use Rattle.ln_tree.specs.Exps.{vector}
use Rattle.ln_tree.specs.Table.{PredOf}
use Rattle.ln_bound.specs.Light.{most}
use Rattle.ln_bound.specs.Value.{weights}
use Rattle.ln_poly.specs.Expansion.{IsNormal}
use Rattle.ln_poly.specs.Sparse.{Sparse, terms_of}
use Rattle.ln_compile.specs.Accepted.{root_of}

-- f is the normal polynomial of the predicate's root: it isn't 0, has at most 1,024 terms, each of a total degree of at most 126, and
-- its weighted sum, where each variable has 1 more than the largest absolute value of its range, is at most 2^127 - 1
pub record IsPolynomialOf (p : PredOf) (f : Sparse) : Type 0 where
  pub normal : IsNormal (length p.vars) (root_of p) f
  pub some : f ≢ []
  pub few : length f ≤ 1024
  pub degrees : All (λ t. total_degree (vector (length p.vars) t.0) ≤ 126) f
  pub weight : weighted_sum (weights p.vars) (terms_of (length p.vars) f) ≤ most

-- f is that of predicate number i
abbrev pub IsPolynomialAt : List PredOf → ℕ → Sparse → Type 0
IsPolynomialAt ps i f = (p : PredOf) → slice_get ps i ≡ Some p → IsPolynomialOf p f
