-- The stage list of a polynomial in an order of its sites: a set of exponent vectors, cut and sorted.
-- Source: the staged evaluation of Simulation of Simplicity (Edelsbrunner and Mücke 1990), which ends at the first coefficient
-- that is a constant.
use Rattle.std.specs.Prelude.{◌≡◌, ◌≢◌, ◌↔◌, ℕ, pos, List, length}
use Rattle.ln_algebra.specs.Earlier.{Earlier, IndicesDiffer, Sites}
use Rattle.ln_algebra.specs.Stage.{IsStageBy, IsStageList, IsStageListBy}
use Rattle.ln_algebra.specs.Terms.{IsNormalOf}
use Rattle.ln_algebra.specs.Tree.{Tree}
use Rattle.ln_poly.specs.Sparse.{Sparse, coefficient_at, terms_of}

-- m is a monomial of the polynomial, over n variables
pub record IsMonomialOf (n : ℕ) (f : Sparse) (m : List ℕ) : Type 0 where
  pub size : length m ≡ n
  pub nonzero : coefficient_at n f m ≢ pos 0

-- a is a stage of the polynomial
abbrev pub IsStageOf : ℕ → Sites → Sparse → List ℕ → Type 0
IsStageOf n sites f a = IsStageBy (Earlier sites) n sites (IsMonomialOf n f) a

-- the stage list of the polynomial
abbrev pub IsStageListOf : ℕ → Sites → Sparse → List (List ℕ) → Type 0
IsStageListOf n sites f list = IsStageListBy (Earlier sites) n sites (IsMonomialOf n f) list

-- ---- laws
-- the stage lists of a polynomial are those of each expression whose normal polynomial it is
abbrev pub ListsAreThoseOfTrees : Type 0
ListsAreThoseOfTrees =
    (n : ℕ) (sites : Sites) (e : Tree) (f : Sparse) (list : List (List ℕ)) → IsNormalOf n e (terms_of n f) →
    IsStageListOf n sites f list ↔ IsStageList n sites e list

-- there is at most one stage list
abbrev pub ListIsUnique : Type 0
ListIsUnique =
    (n : ℕ) (sites : Sites) (f : Sparse) (xs ys : List (List ℕ)) → IndicesDiffer sites →
    IsStageListOf n sites f xs → IsStageListOf n sites f ys → xs ≡ ys
