-- The stages of a predicate: each is over variables of sites, the vector of zeros comes first, and none occurs twice in a list.
use Rattle.std.proofs.Common.{◌≡◌, ℕ, ◌<◌, ◌≤◌, List, [], length, get_or}
use Rattle.std.specs.Prelude.{◌≢◌, All}
use Rattle.ln_algebra.specs.Orders.{BySmallest}
use Rattle.ln_algebra.specs.Vector.{zeros}
use Rattle.ln_tree.specs.declared.shape.VarInfo.{VarInfo}
use Rattle.ln_tree.specs.Exps.{vector}
use Rattle.ln_poly.specs.Sparse.{AreBelow, IsPoly, Sparse}
use Rattle.ln_stage.specs.Lists.{stage_count}
use Rattle.ln_stage.specs.Staged.{AreStagesOf, Staged, vectors_of}
use Rattle.ln_stage.proofs.Sights.Members as members
use Rattle.ln_stage.proofs.Sights.Members.{IsOfSites}
use Rattle.ln_code.specs.Kept.{IsList}

module _ (k : ℕ) (vars : List VarInfo) (f : Sparse) (st : Staged) (s : AreStagesOf k vars f st) where
  -- in each stage the exponent of a variable that is no coordinate of a site is 0
  pub stages-of-sites : All (λ e. IsOfSites vars (vector (length vars) e)) st.exps
  stages-of-sites = members.of-sites BySmallest k vars f (vectors_of (length vars) st) s.lists st.exps s.first_sight

  -- the distinct stages are no more than the stages of all lists, counted together
  pub stages-few : length st.exps ≤ stage_count (vectors_of (length vars) st)
  stages-few = members.few-blocks BySmallest k vars f (vectors_of (length vars) st) s.lists st.exps s.first_sight

  module _ (p : IsPoly f) (b : AreBelow (length vars) f) (d : f ≢ []) where
    -- where the polynomial isn't 0 there is a stage, and the first one is the vector of zeros
    pub first-exps : (0 < length st.exps) × (vector (length vars) (get_or st.exps 0 []) ≡ zeros (length vars))
    first-exps = members.first-exps BySmallest k vars f (vectors_of (length vars) st) s.lists st.exps s.first_sight p b d

    -- where the polynomial isn't 0 each list is of numbers of stages, none twice, and isn't empty
    pub lists-are : All (IsList (length st.exps)) st.lists
    lists-are = λ j x h. record {
      within = s.numbers j x h;
      once = members.list-once BySmallest k vars f st s.lists p b d s.first_sight j x h;
      filled = members.list-filled BySmallest k vars f st s.lists p b d s.first_sight j x h;
    }
