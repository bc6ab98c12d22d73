-- The stages of a predicate, as contracts see them.
use Rattle.std.specs.Prelude.{◌≡◌, ◌≢◌, ℕ, ◌+◌, ◌<◌, ◌≤◌, All, List, [], ◌∷◌, length, map, slice_index_or, take}
use Rattle.ln_algebra.specs.Orders.{BySmallest, Rank}
use Rattle.ln_tree.specs.declared.shape.VarInfo.{VarInfo}
use Rattle.ln_tree.specs.Exps.{IsAbove, Pairs, vector}
use Rattle.ln_order.specs.Orders.{IsOrderOf, orders_of}
use Rattle.ln_order.specs.Prefixes.{beside, prefixes_of, segments_from}
use Rattle.ln_order.specs.Sites.{sites_of}
use Rattle.ln_poly.specs.Sparse.{Sparse}
use Rattle.ln_stage.specs.Lists.{AreStageLists, AreStageListsIn, Passes, first_seen}
use Rattle.ln_stage.specs.Segments.{IsSegmentOf}
use Rattle.ln_stage.specs.declared.stop.StageStop.{StageStop}
use Rattle.ln_stage.specs.declared.stop.StageStop.TheVariants.{Zero, Stages, NoMemory}

-- the number of sites, the exponents of each block by number, for each prefix of orders the numbers of its segment, and for each
-- order of the sites the list of numbers, which is its segments one after the other
pub record Staged : Type 0 where
  pub sites : ℕ
  pub exps : List Pairs
  pub segments : List (List ℕ)
  pub lists : List (List ℕ)

-- the lists of all orders of k sites with these segments, each its segments one after the other
abbrev pub lists_in : ℕ → List (List ℕ) → List (List ℕ)
lists_in k segments = map (λ o. segments_from (beside (prefixes_of k) segments) o 0) (orders_of k)

-- how many numbers there are in all lists
abbrev pub count_numbers : List (List ℕ) → ℕ
count_numbers [] = 0
count_numbers (list ∷ lists) = length list + count_numbers lists

-- the exponent vector of block i
abbrev pub block_vector : ℕ → List Pairs → ℕ → List ℕ
block_vector n exps i = vector n (slice_index_or exps i [])

-- the lists as lists of exponent vectors
abbrev pub vectors_of : ℕ → Staged → List (List (List ℕ))
vectors_of n st = map (λ list. map (block_vector n st.exps) list) st.lists

-- the segment of a prefix, which is at the number of the prefix among all
abbrev pub segment_of : Staged → List ℕ → List ℕ
segment_of st p = beside (prefixes_of st.sites) st.segments p

-- the segment of each prefix has exactly the stages whose last site is the last of the prefix, in every order that begins with
-- it, and a list is the segments of its prefixes, one after the other
pub record AreSegmentsOf (k : ℕ) (vars : List VarInfo) (f : Sparse) (st : Staged) : Type 0 where
  pub size : length st.segments ≡ length (prefixes_of k)
  pub each : (o : List ℕ) (j : ℕ) → IsOrderOf k o → j ≤ k →
      IsSegmentOf (length vars) (sites_of vars o) f j (map (block_vector (length vars) st.exps) (segment_of st (take j o)))
  pub make : st.lists ≡ map (λ o. segments_from (segment_of st) o 0) (orders_of k)
  pub numbers : All (λ segment. All (λ i. i < length st.exps) segment) st.segments

-- these are the stages of f: for each order of the sites its stage list, in segments, and the blocks in order of first sight
pub record AreStagesOf (k : ℕ) (vars : List VarInfo) (f : Sparse) (st : Staged) : Type 0 where
  pub sites : st.sites ≡ k
  pub lists : AreStageLists k vars f (vectors_of (length vars) st)
  pub first_sight : map (vector (length vars)) st.exps ≡ first_seen (vectors_of (length vars) st)
  pub below : All (λ e. IsAbove e (length vars)) st.exps
  pub numbers : All (λ list. All (λ i. i < length st.exps) list) st.lists
  pub segments : AreSegmentsOf k vars f st

-- why there are no stages by an order of infinitesimals: f is 0, or it isn't and the stage count or the stage weight of its lists exceeds its
-- limit; out of memory isn't described here
abbrev pub StopsListingIn : Rank → ℕ → List VarInfo → Sparse → ℕ → ℕ → StageStop → Type 0
StopsListingIn rank k vars f most heavy Zero = f ≡ []
StopsListingIn rank k vars f most heavy Stages = (f ≢ [])
    × ((lists : List (List (List ℕ))) × AreStageListsIn rank k vars f lists × Passes (length vars) f most heavy lists)
StopsListingIn rank k vars f most heavy (NoMemory _) = Unit {0}

-- the same by the smallest infinitesimal in which two vectors differ
abbrev pub StopsListing : ℕ → List VarInfo → Sparse → ℕ → ℕ → StageStop → Type 0
StopsListing k vars f most heavy x = StopsListingIn BySmallest k vars f most heavy x
