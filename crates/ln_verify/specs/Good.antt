-- Defines a part that is written as a listing: its lines, and what makes them valid.
use Rattle.std.specs.Prelude.{◌≡◌, ℕ, suc, ◌≤◌, List, [], ◌∷◌, ◌++◌, length, map, Option, Some, None, IfSome}
use Rattle.std.specs.List.{AllByRecursion, AllZip}
use Rattle.ln_algebra.specs.Terms.{IsNormalOf, derived}
use Rattle.ln_algebra.specs.Tree.{Tree}
use Rattle.ln_interval.specs.Range.{Range}
use Rattle.ln_tree.specs.Exps.{IsRising, vector}
use Rattle.ln_bound.specs.declared.fitted.Width.TheVariants.{W64}
use Rattle.ln_bound.specs.Widths.{limit}
use Rattle.ln_order.specs.Orders.{orders_of}
use Rattle.ln_poly.specs.Sparse.{terms_of}
use Rattle.ln_code.specs.declared.op.Triple.{Triple}
use Rattle.ln_code.specs.Engine.{Engine, Line, State}
use Rattle.ln_code.specs.FilterRules.{FilterKnown}
use Rattle.ln_code.specs.Kept.{AreOfSites}
use Rattle.ln_code.specs.Rules.{Known}
use Rattle.ln_verify.specs.BlockRules.{Version, block_rules, triple_rules}
use Rattle.ln_verify.specs.Line.{IsNextList, Leads, Piece, Subject, Written, exps_of, filter_tree_of, fresh, tree_of}
use Rattle.ln_cert.specs.declared.part.Part.{Part}
use Rattle.ln_cert.specs.declared.part.Part.TheVariants.{Predicate, NoFilter, Filter, FilterOp, Decide, Block, RangeOp, End, Order, Done}

-- ---- the lines of a part, in version 2
-- the line of an operation of a block, with the two ends of its range
abbrev pub range_line : Line Range → Part
range_line x = RangeOp x.op x.bound.low x.bound.high

-- the line of an operation of a filter, with its triple
abbrev pub triple_line : Line Triple → Part
triple_line x = FilterOp x.op x.bound

-- the lines of a filter, or the one line that says that there is none
abbrev pub triple_parts : Option (List (Line Triple)) → List Part
triple_parts None = NoFilter ∷ []
triple_parts (Some lines) = Filter ∷ (map triple_line lines ++ Decide ∷ [])

-- the blocks, of which the first has the number k
abbrev pub block_lines : ℕ → List Piece → List Part
block_lines k [] = []
block_lines k (b ∷ bs) = Block k b.exps ∷ (map range_line b.lines ++ (End ∷ block_lines (suc k) bs))

-- the orders with their lists
abbrev pub order_lines : List (List ℕ) → List (List ℕ) → List Part
order_lines [] lists = []
order_lines (o ∷ os) [] = []
order_lines (o ∷ os) (l ∷ ls) = Order o l ∷ order_lines os ls

-- the lines of a predicate's part: its name, its filter, its blocks by number, the list of each order of its sites, and `done`
abbrev pub part_lines : Subject → Written → List Part
part_lines p w = Predicate p.name
    ∷ (triple_parts w.filter ++ (block_lines 0 w.blocks ++ (order_lines (orders_of p.sites) w.lists ++ Done ∷ [])))

-- the lines of the parts of all predicates, one part after the other
abbrev pub all_lines : List Subject → List Written → List Part
all_lines [] parts = []
all_lines (p ∷ ps) [] = []
all_lines (p ∷ ps) (w ∷ ws) = part_lines p w ++ all_lines ps ws

-- ---- what makes them valid
-- lines lead from one state to another, and each pushes something small
abbrev pub AllLead : {B K : Type 0} → (K → Tree) → ℕ → Engine B K (ℕ → Option K) → List (Line B) → State K (ℕ → Option K) →
    State K (ℕ → Option K) → Type 0
AllLead tree n e [] s t = t ≡ s
AllLead {B} {K} tree n e (x ∷ xs) s t = (u : State K (ℕ → Option K)) × Leads tree n e x.op x.bound s u × AllLead tree n e xs u t

-- a block is valid: its exponents are of coordinates of sites, and its lines leave one value, whose polynomial is the scaled derivative
pub record IsGoodPiece (v : Version) (p : Subject) (b : Piece) : Type 0 where
  pub rising : IsRising b.exps
  pub of_sites : AreOfSites p.vars b.exps
  pub end : State Known (ℕ → Option Known)
  pub leads : AllLead tree_of (length p.vars) (block_rules v p.vars) b.lines fresh end
  pub left : Known
  pub one : end.stack ≡ left ∷ []
  pub derivative : IsNormalOf (length p.vars) left.tree (derived (vector (length p.vars) b.exps) (terms_of (length p.vars) p.poly))

-- a filter is valid: its lines leave one number, whose polynomial is the predicate's and whose error fits 64 bits
pub record IsGoodFilter (v : Version) (p : Subject) (lines : List (Line Triple)) : Type 0 where
  pub end : State FilterKnown (ℕ → Option FilterKnown)
  pub leads : AllLead filter_tree_of (length p.vars) (triple_rules v p.vars) lines fresh end
  pub left : FilterKnown
  pub one : end.stack ≡ left ∷ []
  pub whole : IsNormalOf (length p.vars) left.tree (terms_of (length p.vars) p.poly)
  pub narrow : left.triple.e ≤ limit W64

-- each order has its stage list
abbrev pub AreNext : Subject → List Piece → ℕ → List (List ℕ) → List (List ℕ) → Type 0
AreNext p bs k [] [] = Unit {0}
AreNext p bs k [] (l ∷ ls) = ⊥
AreNext p bs k (o ∷ os) [] = ⊥
AreNext p bs k (o ∷ os) (l ∷ ls) = IsNextList p (exps_of bs) k o l × AreNext p bs (suc k) os ls

-- each block is valid
abbrev pub AreGood : Version → Subject → List Piece → Type 0
AreGood v p bs = AllByRecursion (IsGoodPiece v p) bs

-- the part of a predicate is valid: its filter is, if there is one, each block is, and each order has its stage list
pub record IsGoodPart (v : Version) (p : Subject) (w : Written) : Type 0 where
  pub filter : IfSome w.filter (IsGoodFilter v p)
  pub blocks : AreGood v p w.blocks
  pub lists : AreNext p w.blocks 0 (orders_of p.sites) w.lists

-- each predicate has one part, in order, and that part is valid
abbrev pub AreGoodParts : Version → List Subject → List Written → Type 0
AreGoodParts v ps ws = AllZip (IsGoodPart v) ps ws
