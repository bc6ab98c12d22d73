-- What a part carries: the expression whose sign it decides, its normal polynomial and its stages. Programs that are compiled and
-- parts of a listing are such parts.
use Rattle.std.specs.Prelude.{◌≡◌, ℕ, ◌<◌, All, List, [], length, map, slice_index_or, Some, IfSome}
use Rattle.ln_algebra.specs.Orders.{Rank}
use Rattle.ln_algebra.specs.Terms.{IsNormalOf, Term, derived}
use Rattle.ln_algebra.specs.Tree.{InputsBelow, Tree}
use Rattle.ln_tree.specs.declared.shape.VarInfo.{VarInfo}
use Rattle.ln_tree.specs.Exps.{vector}
use Rattle.ln_order.specs.Prefixes.{prefixes_of}
use Rattle.ln_order.specs.Rows.{OrderStages}
use Rattle.ln_code.specs.FilterRules.{FilterKnown}
use Rattle.ln_code.specs.Kept.{FollowsFilterRules, FollowsRules}
use Rattle.ln_code.specs.Lists.{IsListOf}
use Rattle.ln_code.specs.Part.{Code, FilterCode, Part, filter_known_of, known_of}
use Rattle.ln_code.specs.Rules.{Known}

-- what the machine needs to return a verdict on every row in range: blocks and filter follow the rules, each prefix of orders of the sites
-- has a segment, and segments name blocks that are there
pub record Runs (p : Part) : Type 0 where
  pub blocks : All (FollowsRules p.shape.vars) p.blocks
  pub filter : IfSome p.filter (FollowsFilterRules p.shape.vars)
  pub prefixes : length p.segments ≡ length (prefixes_of p.shape.sites)
  pub named : All (λ segment. All (λ n. n < length p.blocks) segment) p.segments

-- the exponent vector of block k
abbrev pub stage_at : Part → ℕ → List ℕ
stage_at p k = vector (length p.shape.vars) (slice_index_or (map (λ c. c.exps) p.blocks) k [])

-- the exponent vectors of the blocks of a list
abbrev pub vectors : Part → List ℕ → List (List ℕ)
vectors p list = map (stage_at p) list

-- the block computes the scaled derivative of f by its exponents: that is the normal polynomial of the expression whose value it has
pub record CarriesDerivative (vars : List VarInfo) (f : List Term) (c : Code) : Type 0 where
  pub what : Known
  pub known : known_of vars c ≡ Some what
  pub derivative : IsNormalOf (length vars) what.tree (derived (vector (length vars) c.exps) f)

-- the filter stands for the whole: the expression for whose value it leaves a number has the normal polynomial f
pub record CarriesWhole (vars : List VarInfo) (f : List Term) (c : FilterCode) : Type 0 where
  pub what : FilterKnown
  pub known : filter_known_of vars c ≡ Some what
  pub whole : IsNormalOf (length vars) what.tree f

-- the part carries the closed expression e, whose normal polynomial is f, by this order of infinitesimals: the list of each order
-- of the sites is its stage list, each block computes its derivative (so one without exponents the whole), and the filter, if
-- there is one, stands for the whole
pub record Carries (rank : Rank) (p : Part) (e : Tree) (f : List Term) : Type 0 where
  pub inputs : InputsBelow (length p.shape.vars) e
  pub normal : IsNormalOf (length p.shape.vars) e f
  pub lists : (places list : List ℕ) → IsListOf p places list → OrderStages rank p.shape.vars e places (vectors p list)
  pub blocks : All (CarriesDerivative p.shape.vars f) p.blocks
  pub filter : IfSome p.filter (CarriesWhole p.shape.vars f)
