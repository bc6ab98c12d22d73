-- Programs by total degree first.
-- Source: Yap, "Symbolic treatment of geometric degeneracies" (1990): one of his admissible orders of infinitesimals.
use Rattle.std.specs.Prelude.{◌≡◌, ◌≢◌, ℕ, ◌+◌, ◌<◌, ◌≤◌, ◌^◌, All, List, [], length, map, take, slice_get, Option, Some, IfSome}
use Rattle.ln_algebra.specs.Orders.{ByDegree}
use Rattle.ln_algebra.specs.Terms.{IsNormalOf}
use Rattle.ln_algebra.specs.Tree.{InputsBelow, Tree}
use Rattle.ln_algebra.specs.Vector.{total_degree}
use Rattle.ln_algebra.specs.Weights.{weighted_sum}
use Rattle.ln_tree.specs.declared.shape.Shape.{Shape}
use Rattle.ln_tree.specs.declared.shape.VarInfo.{VarInfo}
use Rattle.ln_tree.specs.Exps.{vector}
use Rattle.ln_tree.specs.Row.{InRange, Row}
use Rattle.ln_bound.specs.Light.{most}
use Rattle.ln_bound.specs.Value.{weights}
use Rattle.ln_order.specs.Orders.{IsOrderOf}
use Rattle.ln_poly.specs.Sparse.{AreBelow, IsPoly, Sparse, terms_of}
use Rattle.ln_stage.specs.Lists.{AreStageListsIn, Passes, first_seen, stage_count, stage_weight}
use Rattle.ln_code.specs.Carried.{Carries, CarriesDerivative, CarriesWhole, vectors}
use Rattle.ln_code.specs.Kept.{FollowsFilterRules, IsProgram}
use Rattle.ln_code.specs.Lists.{lists_of, segment_of}
use Rattle.ln_code.specs.Part.{Code, FilterCode, Part, ops_in_filter}
use Rattle.ln_code.specs.Verdict.{IsVerdict}
use Rattle.ln_code.specs.declared.verdict.Verdict.{Verdict}
use Rattle.ln_due.specs.Derivative.{IsDerivativeBlock}
use Rattle.ln_due.specs.Due.{Due, Filtering}
use Rattle.ln_due.specs.DueLaw.{FilterDoes}
use Rattle.ln_due.specs.Small.{FilterPushesSmall, PushesSmall}
use Rattle.ln_graded.specs.declared.stop.GradedStop.{GradedStop}
use Rattle.ln_graded.specs.declared.stop.GradedStop.TheVariants.{Stages, NoMemory}

-- the normal polynomial of an accepted predicate over these variables: it isn't 0, has at most 1,024 terms, each of a total degree
-- of at most 126, and its weighted sum, where each variable has 1 more than the largest absolute value of its range, is at most
-- 2^127 - 1
pub record IsGradable (vars : List VarInfo) (f : Sparse) : Type 0 where
  pub form : IsPoly f
  pub some : f ≢ []
  pub below : AreBelow (length vars) f
  pub few : length f ≤ 1024
  pub degrees : All (λ t. total_degree (vector (length vars) t.0) ≤ 126) f
  pub weight : weighted_sum (weights vars) (terms_of (length vars) f) ≤ most

-- the program is over the shape, its block 0 has no exponents and computes f, its filter, if it has one, stands for f, what both push
-- is small, and together they have fewer than 2^21 operations
pub record Begins (s : Shape) (f : Sparse) (p : Part) : Type 0 where
  pub shape : p.shape ≡ s
  pub own : Code
  pub first : slice_get p.blocks 0 ≡ Some own
  pub plain : own.exps ≡ []
  pub carries : CarriesDerivative s.vars (terms_of (length s.vars) f) own
  pub whole : IfSome p.filter (CarriesWhole s.vars (terms_of (length s.vars) f))
  pub small : PushesSmall p
  pub short : ops_in_filter p.filter + length own.ops < 2 ^ 21

-- a program by total degree of f can begin with this filter and this block 0: the block has no exponents and computes f, the filter, if there is
-- one, follows the rules and stands for f, what it pushes is small, and together they have fewer than 2^21 operations
pub record CanBegin (s : Shape) (f : Sparse) (filter : Option FilterCode) (own : Code) : Type 0 where
  pub plain : own.exps ≡ []
  pub block : IsDerivativeBlock s.vars f own
  pub rules : IfSome filter (FollowsFilterRules s.vars)
  pub whole : IfSome filter (CarriesWhole s.vars (terms_of (length s.vars) f))
  pub pushes : IfSome filter (FilterPushesSmall s.vars)
  pub short : ops_in_filter filter + length own.ops < 2 ^ 21

-- q is a program by total degree with this filter and this block 0: its lists are the stage lists of f by total degree, and its blocks'
-- exponents the distinct members of the lists in order of first sight; it carries each closed expression whose normal polynomial f is; what
-- its blocks and its filter push is small; and nothing is at the prefixes that are no whole order
pub record IsGradedFrom (s : Shape) (f : Sparse) (o : Option FilterCode) (b : Option Code) (q : Part) : Type 0 where
  pub shape : q.shape ≡ s
  pub filter : q.filter ≡ o
  pub first : slice_get q.blocks 0 ≡ b
  pub lists : AreStageListsIn ByDegree s.sites s.vars f (map (vectors q) (lists_of q))
  pub sight : map (λ c. vector (length s.vars) c.exps) q.blocks ≡ first_seen (map (vectors q) (lists_of q))
  pub carries : (e : Tree) → InputsBelow (length s.vars) e → IsNormalOf (length s.vars) e (terms_of (length s.vars) f) →
      Carries ByDegree q e (terms_of (length s.vars) f)
  pub small : PushesSmall q
  pub whole : (o : List ℕ) (j : ℕ) → IsOrderOf s.sites o → j < s.sites → segment_of q (take j o) ≡ []

-- q is p by total degree: it has p's filter and block 0
abbrev pub IsGraded : Shape → Sparse → Part → Part → Type 0
IsGraded s f p q = IsGradedFrom s f p.filter (slice_get p.blocks 0) q

-- the lists of the program have at most this many stages, of at most this weight
pub record IsWithin (s : Shape) (f : Sparse) (limit heavy : ℕ) (q : Part) : Type 0 where
  pub count : stage_count (map (vectors q) (lists_of q)) ≤ limit
  pub weight : stage_weight (length s.vars) f (map (vectors q) (lists_of q)) ≤ heavy

-- why there is none: the stage lists by total degree exceed a limit; where memory runs out, nothing more is known
abbrev pub StopsFor : Shape → Sparse → ℕ → ℕ → GradedStop → Type 0
StopsFor s f count heavy Stages =
    (lists : List (List (List ℕ))) × AreStageListsIn ByDegree s.sites s.vars f lists × Passes (length s.vars) f count heavy lists
StopsFor s f count heavy (NoMemory _) = Unit {0}

-- ---- laws
-- the verdict on a row in range of a program by total degree is the one that the row requires in that order of infinitesimals
abbrev pub GradedIsDue : Type 0
GradedIsDue =
    (s : Shape) (f : Sparse) (p q : Part) (e : Tree) (row : Row) (does : Filtering) (v : Verdict) →
    IsGraded s f p q → IsProgram q → InputsBelow (length s.vars) e → IsNormalOf (length s.vars) e (terms_of (length s.vars) f) →
    InRange s.sites s.vars row → FilterDoes q row.values does → IsVerdict q row v → Due ByDegree does s.vars e row v

-- the stage lists by total degree are one
abbrev pub GradedListsAreOne : Type 0
GradedListsAreOne =
    (s : Shape) (f : Sparse) (xs ys : List (List (List ℕ))) → AreStageListsIn ByDegree s.sites s.vars f xs →
    AreStageListsIn ByDegree s.sites s.vars f ys → xs ≡ ys
