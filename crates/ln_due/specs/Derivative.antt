-- The block of a scaled derivative of a polynomial.
use Rattle.std.specs.Prelude.{List, length}
use Rattle.ln_tree.specs.declared.shape.VarInfo.{VarInfo}
use Rattle.ln_poly.specs.Sparse.{Sparse, terms_of}
use Rattle.ln_code.specs.Carried.{CarriesDerivative}
use Rattle.ln_code.specs.Kept.{AreOfSites, FollowsRules}
use Rattle.ln_code.specs.Part.{Code}
use Rattle.ln_due.specs.Small.{BlockPushesSmall}

-- the block follows the rules, has exponents of coordinates of sites, computes the scaled derivative of f by them, and pushes small
-- polynomials alone
pub record IsDerivativeBlock (vars : List VarInfo) (f : Sparse) (c : Code) : Type 0 where
  pub rules : FollowsRules vars c
  pub of_sites : AreOfSites vars c.exps
  pub carries : CarriesDerivative vars (terms_of (length vars) f) c
  pub small : BlockPushesSmall vars c
