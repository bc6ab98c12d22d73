-- The walk over the variables of sites, by rising infinitesimal, returns the stage list of a polynomial.
use Rattle.std.proofs.Common.{ℕ, List}
use Rattle.ln_algebra.proofs.Walking.Stages.{walk-stages-by}
use Rattle.ln_algebra.specs.Earlier.{Sites}
use Rattle.ln_algebra.specs.Vector.{zeros}
use Rattle.ln_algebra.specs.Walk.{AllBelow, AreMonomialsBy, IsRanking, walk}
use Rattle.ln_poly.specs.Sparse.{Sparse}
use Rattle.ln_stage.specs.StageList.{IsMonomialOf, IsStageListOf}

-- ms are the monomials of f
abbrev pub AreMonomialsOf : ℕ → Sparse → List (List ℕ) → Type 0
AreMonomialsOf n f ms = AreMonomialsBy (IsMonomialOf n f) ms

-- the walk lists the stages
pub walk-stages : (n : ℕ) (sites : Sites) (f : Sparse) (bound : ℕ) (vs : List ℕ) (ms : List (List ℕ)) → IsRanking n sites vs
    → AreMonomialsOf n f ms → AllBelow bound ms → IsStageListOf n sites f (walk bound vs ms (zeros n)).0
walk-stages n sites f = walk-stages-by n sites (IsMonomialOf n f) (λ m k. k.size)
