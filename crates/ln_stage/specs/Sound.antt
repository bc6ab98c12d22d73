-- The faults that a predicate of a table may have, and predicates that have none: those of sources that compile.
use Rattle.std.specs.Prelude.{ℕ, ◌<◌, List, length}
use Rattle.std.specs.List.{AllByRecursion}
use Rattle.ln_algebra.specs.Weights.{weighted_sum}
use Rattle.ln_base.specs.Limits.{most_stages, most_weight}
use Rattle.ln_tree.specs.Table.{PredOf}
use Rattle.ln_bound.specs.Light.{AreLight, most}
use Rattle.ln_bound.specs.Value.{weights}
use Rattle.ln_poly.specs.Expansion.{HaveFewTerms, IsNormal, IsZeroFault}
use Rattle.ln_poly.specs.OfPred.{expanded_of, loaded_of, root_of}
use Rattle.ln_poly.specs.Sparse.{Sparse, terms_of}
use Rattle.ln_stage.specs.Lists.{AreStageLists, Passes}

-- it is too large as a whole: the weighted sum of its normal polynomial, where each variable has 1 more than the largest absolute value of its
-- range, exceeds 2^127 - 1
pub record IsHeavyFault (p : PredOf) : Type 0 where
  pub poly : Sparse
  pub normal : IsNormal (length p.vars) (root_of p) poly
  pub heavy : most < weighted_sum (weights p.vars) (terms_of (length p.vars) poly)

-- it has too many stages: the stage lists of its normal polynomial, one for each order of its sites, have more than 65,536
-- stages, or more than 131,072 monomials cover their distinct stages
pub record IsStagesFault (p : PredOf) : Type 0 where
  pub poly : Sparse
  pub normal : IsNormal (length p.vars) (root_of p) poly
  pub lists : List (List (List ℕ))
  pub are_lists : AreStageLists p.sites p.vars poly lists
  pub passes : Passes (length p.vars) poly most_stages most_weight lists

-- a predicate has no fault: no range and no size of a node exceeds 2^127 - 1, no node has too many terms, it isn't too large as a whole, the
-- root isn't 0 however it is perturbed, and it hasn't too many stages
pub record IsSound (p : PredOf) : Type 0 where
  pub light : AreLight (loaded_of p)
  pub few : HaveFewTerms (length p.vars) (expanded_of p)
  pub whole : IsHeavyFault p → ⊥
  pub nonzero : IsZeroFault (length p.vars) (root_of p) → ⊥
  pub staged : IsStagesFault p → ⊥

-- none of them has
abbrev pub AreSound : List PredOf → Type 0
AreSound = AllByRecursion IsSound
