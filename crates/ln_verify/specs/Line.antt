-- The rule of each line of a listing, at each place. A place is what has been read so far; a rule defines to which place the line
-- leads. Where it leads nowhere, the line fails.
use Rattle.std.specs.Prelude.{◌≡◌, ℕ, ◌<◌, ◌≤◌, Bool, true, false, All, List, [], ◌∷◌, ◌++◌}
use Rattle.std.specs.Prelude.{length, map, slice_get, slice_index_or, Option, Some, None}
use Rattle.ln_algebra.specs.Terms.{IsNormalOf, derived}
use Rattle.ln_algebra.specs.Tree.{Tree}
use Rattle.ln_interval.specs.Range.{Range}
use Rattle.ln_tree.specs.declared.shape.VarInfo.{VarInfo}
use Rattle.ln_tree.specs.Exps.{IsRising, Pairs, vector}
use Rattle.ln_bound.specs.declared.fitted.Width.TheVariants.{W64}
use Rattle.ln_bound.specs.Widths.{limit}
use Rattle.ln_order.specs.Orders.{orders_of}
use Rattle.ln_order.specs.Sites.{sites_of}
use Rattle.ln_poly.specs.Sparse.{Sparse, terms_of}
use Rattle.ln_stage.specs.StageList.{IsStageListOf}
use Rattle.ln_code.specs.declared.op.Op.{Op}
use Rattle.ln_code.specs.declared.op.Triple.{Triple}
use Rattle.ln_code.specs.Engine.{Engine, Line, State, step}
use Rattle.ln_code.specs.FilterRules.{FilterKnown}
use Rattle.ln_code.specs.Kept.{AreOfSites, stores}
use Rattle.ln_code.specs.Numbers.{no_locals}
use Rattle.ln_code.specs.Rules.{Known}
use Rattle.ln_due.specs.Small.{IsSmall}
use Rattle.ln_verify.specs.BlockRules.{Version, balanced, block_rules, triple_rules}
use Rattle.ln_cert.specs.declared.part.Part.{Part}
use Rattle.ln_cert.specs.declared.part.Part.TheVariants.{Predicate, NoFilter, Filter, FilterOp, Decide}
use Rattle.ln_cert.specs.declared.part.Part.TheVariants.{Block, BlockOp, RangeOp, End, Order, Done}

-- a predicate of the source, as the judge sees it: its name, its sites, its variables and its normal polynomial
pub record Subject : Type 0 where
  pub name : List ℕ
  pub sites : ℕ
  pub vars : List VarInfo
  pub poly : Sparse

-- ---- what has been read
-- a block: its exponents and its lines
pub record Piece : Type 0 where
  pub exps : Pairs
  pub lines : List (Line Range)

-- the part of a predicate: its filter's lines or none, its blocks, and the list of each order
pub record Written : Type 0 where
  pub filter : Option (List (Line Triple))
  pub blocks : List Piece
  pub lists : List (List ℕ)

-- within the part of a predicate: after its name; in the filter, after these lines; after the filter and these blocks; in a block with these
-- exponents, after these lines; after the lists of some orders
pub data Spot : Type 0 where
  Named : Spot
  InFilter : List (Line Triple) → State FilterKnown (ℕ → Option FilterKnown) → Spot
  Between : Option (List (Line Triple)) → List Piece → Spot
  InBlock : Option (List (Line Triple)) → List Piece → Pairs → List (Line Range) → State Known (ℕ → Option Known) → Spot
  Ordering : Written → Spot

-- after the parts of the first predicates, or within the next one
pub data Place : Type 0 where
  Outside : List Written → Place
  Within : List Written → Spot → Place

-- nothing on the stack, no local set
abbrev pub fresh : {V : Type 0} → State V (ℕ → Option V)
fresh = record { stack = []; locals = no_locals }

-- ---- what a value carries
-- the polynomial of what an operation pushed has at most 1,024 terms, and no exponent above 127; one that stores pushes nothing
abbrev pub PushedSmall : {K : Type 0} → (K → Tree) → ℕ → Bool → List K → Type 0
PushedSmall tree n true stack = Unit {0}
PushedSmall tree n false [] = Unit {0}
PushedSmall tree n false (x ∷ stack) = IsSmall n (tree x)

-- a line of a block or a filter leads from one state to another
abbrev pub Leads : {B K : Type 0} → (K → Tree) → ℕ → Engine B K (ℕ → Option K) → Op → B → State K (ℕ → Option K) →
    State K (ℕ → Option K) → Type 0
Leads tree n e op b s t = (step e op b s.locals s.stack ≡ Some t) × PushedSmall tree n (stores op) t.stack

-- the expression that the rules know of a value of a block
abbrev pub tree_of : Known → Tree
tree_of x = x.tree

-- the expression that the rules know of a truncated number
abbrev pub filter_tree_of : FilterKnown → Tree
filter_tree_of x = x.tree

-- ---- the rules
-- of a line of a block: the one bound of version 1 stands for the pair from -B to B
abbrev pub BlockLine : Version → Subject → Option (List (Line Triple)) → List Piece → Pairs → List (Line Range) →
    State Known (ℕ → Option Known) → Op → Range → Spot → Type 0
BlockLine v p f bs a lines s op b q =
    (t : State Known (ℕ → Option Known)) × Leads tree_of (length p.vars) (block_rules v p.vars) op b s t
    × (q ≡ InBlock f bs a (lines ++ record { op = op; bound = b } ∷ []) t)

-- `end`: one value is on the stack, and its polynomial is the scaled derivative of f by the block's exponents
pub record EndLine (p : Subject) (f : Option (List (Line Triple))) (bs : List Piece) (a : Pairs) (lines : List (Line Range))
    (s : State Known (ℕ → Option Known)) (q : Spot) : Type 0 where
  pub left : Known
  pub one : s.stack ≡ left ∷ []
  pub derivative : IsNormalOf (length p.vars) left.tree (derived (vector (length p.vars) a) (terms_of (length p.vars) p.poly))
  pub to : q ≡ Between f (bs ++ record { exps = a; lines = lines } ∷ [])

-- `decide`: one value is on the stack, its polynomial is f, and its E fits 64 bits
pub record DecideLine (p : Subject) (lines : List (Line Triple)) (s : State FilterKnown (ℕ → Option FilterKnown)) (q : Spot) : Type 0 where
  pub left : FilterKnown
  pub one : s.stack ≡ left ∷ []
  pub whole : IsNormalOf (length p.vars) left.tree (terms_of (length p.vars) p.poly)
  pub narrow : left.triple.e ≤ limit W64
  pub to : q ≡ Between (Some lines) []

-- `block`: the number is the next one, the variables rise and are coordinates of sites
pub record BlockHead (p : Subject) (f : Option (List (Line Triple))) (bs : List Piece) (k : ℕ) (a : Pairs) (q : Spot) : Type 0 where
  pub number : k ≡ length bs
  pub rising : IsRising a
  pub of_sites : AreOfSites p.vars a
  pub to : q ≡ InBlock f bs a [] fresh

-- the exponents of blocks, by number
abbrev pub exps_of : List Piece → List Pairs
exps_of bs = map (λ b. b.exps) bs

-- the exponent vectors of the blocks with these numbers
abbrev pub named : ℕ → List Pairs → List ℕ → List (List ℕ)
named n exps list = map (λ k. vector n (slice_index_or exps k [])) list

-- after this many lists, the places are the next order of all, the numbers are those of blocks, and the exponents of these are the
-- stage list of the order
pub record IsNextList (p : Subject) (exps : List Pairs) (before : ℕ) (places list : List ℕ) : Type 0 where
  pub order : slice_get (orders_of p.sites) before ≡ Some places
  pub within : All (λ k. k < length exps) list
  pub stages : IsStageListOf (length p.vars) (sites_of p.vars places) p.poly (named (length p.vars) exps list)

-- `order`
pub record OrderLine (p : Subject) (w : Written) (places list : List ℕ) (q : Spot) : Type 0 where
  pub next : IsNextList p (exps_of w.blocks) (length w.lists) places list
  pub to : q ≡ Ordering (record { filter = w.filter; blocks = w.blocks; lists = w.lists ++ list ∷ [] })

-- a line within the part of a predicate; which lines are allowed where is also in the listing's form
abbrev pub LineRule : Version → Subject → Spot → Part → Spot → Type 0
LineRule v p Named NoFilter q = q ≡ Between None []
LineRule v p Named Filter q = q ≡ InFilter [] fresh
LineRule v p Named _ q = ⊥
LineRule v p (InFilter lines s) (FilterOp op a) q =
    (t : State FilterKnown (ℕ → Option FilterKnown)) × Leads filter_tree_of (length p.vars) (triple_rules v p.vars) op a s t
    × (q ≡ InFilter (lines ++ record { op = op; bound = a } ∷ []) t)
LineRule v p (InFilter lines s) Decide q = DecideLine p lines s q
LineRule v p (InFilter lines s) _ q = ⊥
LineRule v p (Between f bs) (Block k a) q = BlockHead p f bs k a q
LineRule v p (Between f bs) (Order places list) q = OrderLine p (record { filter = f; blocks = bs; lists = [] }) places list q
LineRule v p (Between f bs) _ q = ⊥
LineRule v p (InBlock f bs a lines s) (BlockOp op b) q = (v.number ≡ 1) × BlockLine v p f bs a lines s op (balanced b) q
LineRule v p (InBlock f bs a lines s) (RangeOp op l u) q = (v.number ≡ 2) × BlockLine v p f bs a lines s op (record { low = l; high = u }) q
LineRule v p (InBlock f bs a lines s) End q = EndLine p f bs a lines s q
LineRule v p (InBlock f bs a lines s) _ q = ⊥
LineRule v p (Ordering w) (Order places list) q = OrderLine p w places list q
LineRule v p (Ordering w) _ q = ⊥

-- `predicate`: the name of the source's predicate of this number
pub record NameLine (ps : List Subject) (parts : List Written) (name : List ℕ) (q : Place) : Type 0 where
  pub subject : Subject
  pub there : slice_get ps (length parts) ≡ Some subject
  pub named : subject.name ≡ name
  pub to : q ≡ Within parts Named

-- `done`: all orders of the sites stood
pub record DoneLine (p : Subject) (parts : List Written) (w : Written) (q : Place) : Type 0 where
  pub all : length w.lists ≡ length (orders_of p.sites)
  pub to : q ≡ Outside (parts ++ w ∷ [])

-- a line within the part of this predicate: `done`, or one that leads on within it
abbrev pub PartRule : Version → Subject → List Written → Spot → Part → Place → Type 0
PartRule v p parts (Ordering w) Done q = DoneLine p parts w q
PartRule v p parts s line q = (t : Spot) × LineRule v p s line t × (q ≡ Within parts t)

-- the rule of a line at a place
abbrev pub Rule : Version → List Subject → Place → Part → Place → Type 0
Rule v ps (Outside parts) (Predicate name) q = NameLine ps parts name q
Rule v ps (Outside parts) _ q = ⊥
Rule v ps (Within parts s) line q = (p : Subject) × (slice_get ps (length parts) ≡ Some p) × PartRule v p parts s line q
