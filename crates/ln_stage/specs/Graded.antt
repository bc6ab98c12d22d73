-- The stage lists of all orders of the sites by total degree first, and how they are kept: each list whole, where its order is.
use Rattle.std.specs.Prelude.{◌≡◌, ℕ, ◌<◌, eqb, All, Bool, true, false, List, [], length, map, take, if◌then◌else◌}
use Rattle.std.specs.List.{range_with_len}
use Rattle.ln_algebra.specs.Orders.{ByDegree, BySmallest, Rank}
use Rattle.ln_algebra.specs.Vector.{zeros}
use Rattle.ln_algebra.specs.Walk.{Found}
use Rattle.ln_tree.specs.declared.shape.VarInfo.{VarInfo}
use Rattle.ln_tree.specs.Exps.{IsAbove, vector}
use Rattle.ln_order.specs.Orders.{IsOrderOf, orders_of}
use Rattle.ln_order.specs.Prefixes.{prefixes_of, segments_from}
use Rattle.ln_order.specs.Sites.{ranking_of}
use Rattle.ln_poly.specs.Sparse.{Sparse}
use Rattle.ln_stage.specs.Degrees.{listed_graded}
use Rattle.ln_stage.specs.Lists.{AreStageListsIn, first_seen}
use Rattle.ln_stage.specs.Staged.{AreStagesOf, Staged, segment_of, vectors_of}
use Rattle.ln_stage.specs.Visit.{is_cut_at, segment_at}

-- the stage list in an order of the sites by total degree first, as the listing finds it
unfoldable pub graded_list : List VarInfo → Sparse → List ℕ → List (List ℕ)
graded_list vars f o = (listed_graded f (ranking_of vars o) (range_with_len 0 (length f)) (zeros (length vars))).0

-- what is at a prefix of the orders of k sites: at a whole order its list, at any other nothing
unfoldable pub graded_at : ℕ → List VarInfo → Sparse → List ℕ → List (List ℕ)
graded_at k vars f p = if eqb (length p) k then graded_list vars f p else []

-- these are the stages of f by total degree first: for each order of the sites its stage list, whole where the order is, and the
-- blocks in order of first sight
pub record AreGradedStagesOf (k : ℕ) (vars : List VarInfo) (f : Sparse) (st : Staged) : Type 0 where
  pub sites : st.sites ≡ k
  pub lists : AreStageListsIn ByDegree k vars f (vectors_of (length vars) st)
  pub first_sight : map (vector (length vars)) st.exps ≡ first_seen (vectors_of (length vars) st)
  pub below : All (λ e. IsAbove e (length vars)) st.exps
  pub numbers : All (λ list. All (λ i. i < length st.exps) list) st.lists
  pub size : length st.segments ≡ length (prefixes_of k)
  pub make : st.lists ≡ map (λ o. segments_from (segment_of st) o 0) (orders_of k)
  pub named : All (λ segment. All (λ i. i < length st.exps) segment) st.segments
  pub whole : (o : List ℕ) (j : ℕ) → IsOrderOf k o → j < k → segment_of st (take j o) ≡ []

-- ---- both orders of infinitesimals: by degree, or by the smallest in which two vectors differ
-- the order of infinitesimals
abbrev pub rank_of : Bool → Rank
rank_of false = BySmallest
rank_of true = ByDegree

-- what is found at a prefix, and whether the cut ended the lists there
abbrev pub found_at : Bool → ℕ → List VarInfo → Sparse → List ℕ → Found
found_at false k vars f p = (segment_at vars f p, is_cut_at vars f p)
found_at true k vars f p = (graded_at k vars f p, false)

-- what is found there
abbrev pub segment_by : Bool → ℕ → List VarInfo → Sparse → List ℕ → List (List ℕ)
segment_by by_degree k vars f p = (found_at by_degree k vars f p).0

-- whether the cut is there
abbrev pub cut_by : Bool → ℕ → List VarInfo → Sparse → List ℕ → Bool
cut_by by_degree k vars f p = (found_at by_degree k vars f p).1

-- these are the stages of f
abbrev pub AreStagesBy : Bool → ℕ → List VarInfo → Sparse → Staged → Type 0
AreStagesBy false k vars f st = AreStagesOf k vars f st
AreStagesBy true k vars f st = AreGradedStagesOf k vars f st
