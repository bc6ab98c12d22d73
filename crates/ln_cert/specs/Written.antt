-- The listing of compiled programs.
use Rattle.std.specs.Prelude.{◌≡◌, ℕ, suc, pos, ◌<◌, ◌≤◌, ◌^◌, unsigned_abs, true, List, [], ◌∷◌, ◌++◌, length, map, Option, Some, None, IfSome}
use Rattle.std.specs.List.{AllByRecursion}
use Rattle.ln_interval.specs.Range.{Range}
use Rattle.ln_tree.specs.declared.shape.VarInfo.{VarInfo}
use Rattle.ln_tree.specs.Exps.{IsRising}
use Rattle.ln_tree.specs.Names.{name_bytes}
use Rattle.ln_order.specs.Orders.{orders_of}
use Rattle.ln_code.specs.declared.op.Op.{Op}
use Rattle.ln_code.specs.declared.op.Op.TheVariants as op
use Rattle.ln_code.specs.declared.op.Triple.{Triple}
use Rattle.ln_code.specs.Engine.{Line}
use Rattle.ln_code.specs.Kept.{AreOfSites, FollowsFilterRules, FollowsRules}
use Rattle.ln_code.specs.Lists.{list_of}
use Rattle.ln_code.specs.Part.{Code, FilterCode, lines_of}
use Rattle.ln_code.specs.Part.{Part as Program}
use Rattle.ln_cert.specs.declared.part.Part.{Part}
use Rattle.ln_cert.specs.declared.part.Part.TheVariants.{Predicate, NoFilter, Filter, FilterOp, Decide, Block, RangeOp, End, Order, Done}
use Rattle.ln_base.specs.Lines.{joined}
use Rattle.ln_cert.specs.Text.{Each, IsLine, of_block, of_filter, takes_off, text_of, verb_of}

-- an operation of a filter with its triple
abbrev pub filter_line : Line Triple → Part
filter_line x = FilterOp x.op x.bound

-- an operation of a block with the two ends of its range
abbrev pub range_line : Line Range → Part
range_line x = RangeOp x.op x.bound.low x.bound.high

-- the lines of a filter, or the one line that says that there is none
abbrev pub filter_parts : Option FilterCode → List Part
filter_parts None = NoFilter ∷ []
filter_parts (Some f) = Filter ∷ (map filter_line (lines_of f.ops f.triples) ++ Decide ∷ [])

-- block number n
abbrev pub block_lines : ℕ → Code → List Part
block_lines n c = Block n c.exps ∷ (map range_line (lines_of c.ops c.pairs) ++ End ∷ [])

-- blocks, numbered from n on
abbrev pub blocks_lines : ℕ → List Code → List Part
blocks_lines n [] = []
blocks_lines n (c ∷ cs) = block_lines n c ++ blocks_lines (suc n) cs

-- the list of each order
abbrev pub order_lines : Program → List (List ℕ) → List Part
order_lines p os = map (λ o. Order o (list_of p o)) os

-- one program: its name, its filter, its blocks by number, and the list of each order of its sites
abbrev pub program_lines : Program → List Part
program_lines p = Predicate (name_bytes p.shape.name)
    ∷ (filter_parts p.filter ++ (blocks_lines 0 p.blocks ++ (order_lines p (orders_of p.shape.sites) ++ Done ∷ [])))

-- all programs, one after the other
abbrev pub listing_of : List Program → List Part
listing_of [] = []
listing_of (p ∷ ps) = program_lines p ++ listing_of ps

-- these lines were appended, and what they say is within the ranges
pub record WroteParts (old new : List ℕ) (ps : List Part) : Type 0 where
  pub text : new ≡ old ++ joined (map text_of ps)
  pub ranges : Each IsLine ps

-- the limits of an operation's number: a constant is within 2^127 - 1, a variable is one of 168
abbrev pub IsWithin : Op → Type 0
IsWithin (op.Push c) = unsigned_abs c < 2 ^ 127
IsWithin (op.Input v) = v ≤ 167
IsWithin (op.Get j) = Unit {0}
IsWithin (op.Set j) = Unit {0}
IsWithin (op.Add w) = Unit {0}
IsWithin (op.Sub w) = Unit {0}
IsWithin (op.Mul w) = Unit {0}
IsWithin (op.Neg w) = Unit {0}
IsWithin (op.Cut n) = Unit {0}

-- what the rules on filters say of an operation: its number is within these limits, it is 64 bits wide, and it has no triple where it stores
pub record InFilter (x : Line Triple) : Type 0 where
  pub within : IsWithin x.op
  pub narrow : of_filter (verb_of x.op) ≡ true
  pub stores : takes_off (verb_of x.op) ≡ true → x.bound ≡ record { k = 0; h = 0; e = 0 }

-- the same on blocks, which cut nothing
pub record InBlock (x : Line Range) : Type 0 where
  pub within : IsWithin x.op
  pub uncut : of_block (verb_of x.op) ≡ true
  pub stores : takes_off (verb_of x.op) ≡ true → x.bound ≡ record { low = pos 0; high = pos 0 }

-- a filter follows the rules over at most 168 variables
pub record ForFilter (f : FilterCode) : Type 0 where
  pub vars : List VarInfo
  pub few : length vars ≤ 168
  pub rules : FollowsFilterRules vars f

-- a block does, and its exponents are of these variables
pub record ForBlock (c : Code) : Type 0 where
  pub vars : List VarInfo
  pub few : length vars ≤ 168
  pub rules : FollowsRules vars c
  pub of_sites : AreOfSites vars c.exps

-- ---- what a listing can state
-- the variables of a block's exponents rise, and its stack needs at most 2,048 places
pub record IsListableBlock (c : Code) : Type 0 where
  pub rising : IsRising c.exps
  pub shallow : c.depth ≤ 2048

-- each of these blocks can be listed
abbrev pub AreListableBlocks : List Code → Type 0
AreListableBlocks cs = AllByRecursion IsListableBlock cs

-- each block of a program, and the stack of its filter
pub record IsListable (p : Program) : Type 0 where
  pub blocks : AreListableBlocks p.blocks
  pub filter : IfSome p.filter (λ f. f.depth ≤ 2048)
