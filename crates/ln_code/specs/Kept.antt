-- What blocks, filters and programs keep.
use Rattle.std.specs.Prelude.{◌≡◌, ◌≢◌, ℕ, pos, ◌^◌, ◌<◌, ◌≤◌, Bool, true, false, List, [], ◌∷◌, length}
use Rattle.std.specs.Prelude.{All, AllPairs, Option, Some, None, IsSome, is_some, IfSome, slice_get}
use Rattle.ln_base.specs.Limits.{most_stages}
use Rattle.ln_interval.specs.Range.{Range, point}
use Rattle.ln_tree.specs.Exps.{Pairs}
use Rattle.ln_tree.specs.Names.{name_bytes}
use Rattle.ln_tree.specs.declared.shape.VarInfo.{VarInfo}
use Rattle.ln_bound.specs.declared.fitted.Width.TheVariants.{W64}
use Rattle.ln_bound.specs.Widths.{limit}
use Rattle.ln_order.specs.Orders.{IsOrderOf}
use Rattle.ln_order.specs.Prefixes.{prefixes_of}
use Rattle.ln_code.specs.declared.op.Op.{Op}
use Rattle.ln_code.specs.declared.op.Op.TheVariants.{Set}
use Rattle.ln_code.specs.declared.op.Triple.{Triple}
use Rattle.ln_code.specs.Engine.{Line}
use Rattle.ln_code.specs.FilterRules.{FilterKnown}
use Rattle.ln_code.specs.Lists.{list_of}
use Rattle.ln_code.specs.Part.{Code, FilterCode, Part, lines_of, known_of, filter_known_of, ops_in}

-- does it store into a local?
abbrev pub stores : Op → Bool
stores (Set j) = true
stores _ = false

-- what stores has none
abbrev pub StoresHave : {B : Type 0} → B → List (Line B) → Type 0
StoresHave none [] = Unit {0}
StoresHave none (x ∷ xs) = (stores x.op ≡ true → x.bound ≡ none) × StoresHave none xs

-- the rules on one block over these variables: each operation has a range, and the rules know a value in the end
pub record FollowsRules (vars : List VarInfo) (c : Code) : Type 0 where
  pub bounded : length c.ops ≡ length c.pairs
  pub answers : IsSome (known_of vars c)

-- the rules on a filter over these variables; the error of what it leaves fits 64 bits
pub record FollowsFilterRules (vars : List VarInfo) (f : FilterCode) : Type 0 where
  pub bounded : length f.ops ≡ length f.triples
  pub what : FilterKnown
  pub known : filter_known_of vars f ≡ Some what
  pub narrow : what.triple.e ≤ limit W64

-- what stores has the range 0 .. 0
abbrev pub nothing : Range
nothing = point (pos 0)

-- a block needs at most 2,048 places on the stack, and follows the rules over some variables
pub record IsBlock (c : Code) : Type 0 where
  pub shallow : c.depth ≤ 2048
  pub stores_have : StoresHave nothing (lines_of c.ops c.pairs)
  pub vars : List VarInfo
  pub rules : FollowsRules vars c

-- what stores has the triple of zeros
abbrev pub no_triple : Triple
no_triple = record { k = 0; h = 0; e = 0 }

-- the same of a filter
pub record IsFilter (f : FilterCode) : Type 0 where
  pub shallow : f.depth ≤ 2048
  pub stores_have : StoresHave no_triple (lines_of f.ops f.triples)
  pub vars : List VarInfo
  pub rules : FollowsFilterRules vars f

-- is there such a variable, and is it a coordinate of a site?
abbrev pub is_of_site : Option VarInfo → Bool
is_of_site None = false
is_of_site (Some i) = is_some i.site

-- the exponents are of coordinates of sites
abbrev pub AreOfSites : List VarInfo → Pairs → Type 0
AreOfSites vars [] = Unit {0}
AreOfSites vars (p ∷ ps) = (is_of_site (slice_get vars p.0) ≡ true) × AreOfSites vars ps

-- numbers of blocks, each below the count of blocks, none twice, and at least one
pub record IsList (blocks : ℕ) (list : List ℕ) : Type 0 where
  pub within : All (λ n. n < blocks) list
  pub once : AllPairs (λ m n. m ≢ n) list
  pub filled : 0 < length list

-- a program: its blocks and its filter follow the rules over the variables of its shape; it has fewer than 2^32 operations; its
-- blocks' exponents are of coordinates of sites; it has one segment for each prefix of orders of its sites, which names its own
-- blocks; no list of an order is empty or names a block twice
pub record IsProgram (p : Part) : Type 0 where
  pub blocks : All (FollowsRules p.shape.vars) p.blocks
  pub filter : IfSome p.filter (FollowsFilterRules p.shape.vars)
  pub few : ops_in p < 2 ^ 32
  pub of_sites : All (λ c. AreOfSites p.shape.vars c.exps) p.blocks
  pub prefixes : length p.segments ≡ length (prefixes_of p.shape.sites)
  pub named : All (λ segment. All (λ n. n < length p.blocks) segment) p.segments
  pub lists : (o : List ℕ) → IsOrderOf p.shape.sites o → IsList (length p.blocks) (list_of p o)

-- programs whose names differ, each with at most 65,536 blocks
pub record ArePrograms (ps : List Part) : Type 0 where
  pub names : AllPairs (λ p q. name_bytes p.shape.name ≢ name_bytes q.shape.name) ps
  pub small : All (λ p. length p.blocks ≤ most_stages) ps
