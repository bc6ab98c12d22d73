-- The stage lists of all orders of the sites, their count and their weight.
use Rattle.std.specs.Prelude.{◌≡◌, ℕ, ◌+◌, ◌<◌, ◌⊎◌, List, [], ◌∷◌, length, slice_index_or, if◌then◌else◌}
use Rattle.ln_algebra.specs.Orders.{Before, BySmallest, Rank}
use Rattle.ln_algebra.specs.Stage.{IsStageListBy}
use Rattle.ln_algebra.specs.Vector.{same_vector}
use Rattle.ln_tree.specs.declared.shape.VarInfo.{VarInfo}
use Rattle.ln_order.specs.Orders.{orders_of}
use Rattle.ln_order.specs.Sites.{sites_of}
pub use Rattle.ln_poly.specs.Derivative.{all_covering, covering}
use Rattle.ln_poly.specs.Sparse.{Sparse}
use Rattle.ln_stage.specs.StageList.{IsMonomialOf}

-- a stage list for each order of the sites, in the order of the orders, by an order of infinitesimals
pub record AreStageListsIn (rank : Rank) (sites : ℕ) (vars : List VarInfo) (f : Sparse) (lists : List (List (List ℕ))) : Type 0 where
  pub size : length lists ≡ length (orders_of sites)
  pub each : (j : ℕ) → j < length lists →
      IsStageListBy (Before rank (sites_of vars (slice_index_or (orders_of sites) j []))) (length vars)
      (sites_of vars (slice_index_or (orders_of sites) j [])) (IsMonomialOf (length vars) f) (slice_index_or lists j [])

-- the same by the smallest infinitesimal in which two vectors differ
abbrev pub AreStageLists : ℕ → List VarInfo → Sparse → List (List (List ℕ)) → Type 0
AreStageLists sites vars f lists = AreStageListsIn BySmallest sites vars f lists

-- the stage count: the sum of the lengths
abbrev pub stage_count : List (List (List ℕ)) → ℕ
stage_count [] = 0
stage_count (list ∷ lists) = length list + stage_count lists

-- a at the end, unless it is there already
abbrev pub put_last : List (List ℕ) → List ℕ → List (List ℕ)
put_last [] a = a ∷ []
put_last (b ∷ bs) a = if same_vector a b then b ∷ bs else b ∷ put_last bs a

-- each vector of the list at the end of those before, unless it is there already
abbrev pub seen_behind : List (List ℕ) → List (List ℕ) → List (List ℕ)
seen_behind bs [] = bs
seen_behind bs (a ∷ as') = seen_behind (put_last bs a) as'

-- the same for each list in turn
abbrev pub all_seen_behind : List (List ℕ) → List (List (List ℕ)) → List (List ℕ)
all_seen_behind bs [] = bs
all_seen_behind bs (list ∷ lists) = all_seen_behind (seen_behind bs list) lists

-- the distinct vectors of the lists, in order of first sight
abbrev pub first_seen : List (List (List ℕ)) → List (List ℕ)
first_seen lists = all_seen_behind [] lists

-- the stage weight: the sum, over the distinct vectors in all lists, of the number of monomials that cover the vector
abbrev pub stage_weight : ℕ → Sparse → List (List (List ℕ)) → ℕ
stage_weight n f lists = all_covering n f (first_seen lists)

-- the stage count exceeds `most`, or the stage weight exceeds `heavy`
abbrev pub Passes : ℕ → Sparse → ℕ → ℕ → List (List (List ℕ)) → Type 0
Passes n f most heavy lists = (most < stage_count lists) ⊎ (heavy < stage_weight n f lists)
