-- Defines what the parts of a listing hold whose lines don't fail.
use Rattle.std.specs.Prelude.{◌≡◌, ℕ, ◌<◌, ◌≤◌, All, List, length, unsigned_abs, slice_get, Some, IfSome}
use Rattle.std.specs.List.{AllByRecursion}
use Rattle.ln_algebra.specs.Terms.{IsNormalOf, derived}
use Rattle.ln_interval.specs.Range.{Range}
use Rattle.ln_tree.specs.Exps.{IsRising, vector}
use Rattle.ln_bound.specs.declared.fitted.Width.TheVariants.{W64}
use Rattle.ln_bound.specs.Widths.{limit}
use Rattle.ln_order.specs.Orders.{orders_of}
use Rattle.ln_order.specs.Sites.{sites_of}
use Rattle.ln_poly.specs.Sparse.{terms_of}
use Rattle.ln_stage.specs.StageList.{IsStageListOf}
use Rattle.ln_code.specs.declared.op.Triple.{Triple}
use Rattle.ln_code.specs.Engine.{Line, answer}
use Rattle.ln_code.specs.FilterRules.{FilterKnown}
use Rattle.ln_code.specs.Kept.{AreOfSites}
use Rattle.ln_code.specs.Numbers.{no_locals}
use Rattle.ln_code.specs.Rules.{Known}
use Rattle.ln_verify.specs.BlockRules.{Version, balanced, block_rules, triple_rules}
use Rattle.ln_verify.specs.Line.{Piece, Subject, Written, exps_of, named}

-- at each place
abbrev pub Everywhere : {A : Type 0} → (ℕ → A → Type 0) → List A → Type 0
Everywhere {A} P xs = (k : ℕ) (x : A) → slice_get xs k ≡ Some x → P k x

-- the range of each line is from -b to b
abbrev pub AreBothWays : List (Line Range) → Type 0
AreBothWays xs = AllByRecursion (λ x. x.bound ≡ balanced (unsigned_abs x.bound.high)) xs

-- a block: the rules know what it leaves, whose polynomial is the scaled derivative by its exponents, which are of coordinates of sites
pub record PieceStands (v : Version) (p : Subject) (b : Piece) : Type 0 where
  pub left : Known
  pub answered : answer (block_rules v p.vars) no_locals b.lines ≡ Some left
  pub derivative : IsNormalOf (length p.vars) left.tree (derived (vector (length p.vars) b.exps) (terms_of (length p.vars) p.poly))
  pub rising : IsRising b.exps
  pub of_sites : AreOfSites p.vars b.exps
  pub bounds : v.number ≡ 1 → AreBothWays b.lines

-- a filter: the rules know what it leaves, whose polynomial is the predicate's
pub record FilterStands (v : Version) (p : Subject) (lines : List (Line Triple)) : Type 0 where
  pub left : FilterKnown
  pub answered : answer (triple_rules v p.vars) no_locals lines ≡ Some left
  pub whole : IsNormalOf (length p.vars) left.tree (terms_of (length p.vars) p.poly)
  pub narrow : left.triple.e ≤ limit W64

-- the list of an order: numbers of blocks whose exponents are the order's stage list
pub record ListStands (p : Subject) (bs : List Piece) (places list : List ℕ) : Type 0 where
  pub within : All (λ k. k < length (exps_of bs)) list
  pub stages : IsStageListOf (length p.vars) (sites_of p.vars places) p.poly (named (length p.vars) (exps_of bs) list)

-- the lists of the first orders
abbrev pub ListsStand : Subject → List Piece → List (List ℕ) → Type 0
ListsStand p bs lists = Everywhere (λ k list. (places : List ℕ) → slice_get (orders_of p.sites) k ≡ Some places →
    ListStands p bs places list) lists

-- the part of a predicate
pub record PartStands (v : Version) (p : Subject) (w : Written) : Type 0 where
  pub filter : IfSome w.filter (FilterStands v p)
  pub blocks : Everywhere (λ k b. PieceStands v p b) w.blocks
  pub lists : ListsStand p w.blocks w.lists
  pub all : length w.lists ≡ length (orders_of p.sites)

-- each predicate's part is there
abbrev pub PartsStand : Version → List Subject → List Written → Type 0
PartsStand v ps parts = Everywhere (λ k w. (p : Subject) → slice_get ps k ≡ Some p → PartStands v p w) parts
