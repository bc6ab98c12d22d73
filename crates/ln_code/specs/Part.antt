-- Parts: what a program is, and what one predicate of a listing is.
use Rattle.std.specs.Prelude.{ℕ, ◌+◌, Bool, true, false, List, [], ◌∷◌, length, count_by, slice_get, Option, Some, None, ℤ}
use Rattle.ln_interval.specs.Range.{Range}
use Rattle.ln_tree.specs.Exps.{Pairs}
use Rattle.ln_tree.specs.declared.shape.Shape.{Shape}
use Rattle.ln_tree.specs.declared.shape.VarInfo.{VarInfo}
use Rattle.ln_bound.specs.declared.fitted.Width.{Width}
use Rattle.ln_bound.specs.declared.fitted.Width.TheVariants.{W64, W128}
use Rattle.ln_code.specs.declared.op.Op.{Op}
use Rattle.ln_code.specs.declared.op.Op.TheVariants.{Push, Input, Get, Set, Add, Sub, Mul, Neg, Cut}
use Rattle.ln_code.specs.declared.op.Triple.{Triple}
use Rattle.ln_code.specs.Engine.{Line, answer}
use Rattle.ln_code.specs.Numbers.{no_locals}
use Rattle.ln_code.specs.Exact.{Held, exact, exact_filter}
use Rattle.ln_code.specs.Rules.{Known, rules}
use Rattle.ln_code.specs.FilterRules.{FilterKnown, filter_rules}

-- a block: the exponents of its derivative, its operations, a range for each, and how deep its stack may be
pub record Code : Type 0 where
  pub exps : Pairs
  pub ops : List Op
  pub pairs : List Range
  pub depth : ℕ

-- a filter: its operations, a triple for each, and how deep its stack may be
pub record FilterCode : Type 0 where
  pub ops : List Op
  pub triples : List Triple
  pub depth : ℕ

-- a shape, a filter or none, blocks, and for each prefix of orders of the sites, by number, its segment: the numbers of the
-- blocks that are run where it is reached
pub record Part : Type 0 where
  pub shape : Shape
  pub filter : Option FilterCode
  pub blocks : List Code
  pub segments : List (List ℕ)

-- the part without its filter
abbrev pub without_filter : Part → Part
without_filter p = record { shape = p.shape; filter = None; blocks = p.blocks; segments = p.segments }

-- operations with their bounds
abbrev pub lines_of : {B : Type 0} → List Op → List B → List (Line B)
lines_of [] bounds = []
lines_of (o ∷ os) [] = []
lines_of (o ∷ os) (b ∷ bs) = record { op = o; bound = b } ∷ lines_of os bs

-- the value of a block on a row
abbrev pub block_value : List ℤ → Code → Option ℤ
block_value zs c = answer (exact zs) no_locals (lines_of c.ops c.pairs)

-- what a filter leaves on a row
abbrev pub filter_value : List ℤ → FilterCode → Option Held
filter_value zs f = answer (exact_filter zs) no_locals (lines_of f.ops f.triples)

-- what the rules know of a block's value
abbrev pub known_of : List VarInfo → Code → Option Known
known_of vars c = answer (rules vars c.depth) no_locals (lines_of c.ops c.pairs)

-- what the rules know of what a filter leaves
abbrev pub filter_known_of : List VarInfo → FilterCode → Option FilterKnown
filter_known_of vars f = answer (filter_rules vars f.depth) no_locals (lines_of f.ops f.triples)

-- is the width 128 bits?
abbrev pub is_128 : Width → Bool
is_128 W64 = false
is_128 W128 = true

-- is it done at 128 bits? The other operations aren't counted
abbrev pub is_wide : Op → Bool
is_wide (Push c) = false
is_wide (Input v) = false
is_wide (Get j) = false
is_wide (Set j) = false
is_wide (Add w) = is_128 w
is_wide (Sub w) = is_128 w
is_wide (Mul w) = is_128 w
is_wide (Neg w) = is_128 w
is_wide (Cut n) = false

-- how many sums, differences, products and negations are done at 128 bits
abbrev pub wide_in : List Op → ℕ
wide_in ops = count_by is_wide ops

-- how many operations the blocks have together
abbrev pub ops_in_blocks : List Code → ℕ
ops_in_blocks [] = 0
ops_in_blocks (c ∷ cs) = length c.ops + ops_in_blocks cs

-- how many operations a filter has; 0 where there is none
abbrev pub ops_in_filter : Option FilterCode → ℕ
ops_in_filter None = 0
ops_in_filter (Some f) = length f.ops

-- how many operations there are in all
abbrev pub ops_in : Part → ℕ
ops_in p = ops_in_filter p.filter + ops_in_blocks p.blocks

-- the sum of f over a list
abbrev pub sum_of : (ℕ → ℕ) → List ℕ → ℕ
sum_of f [] = 0
sum_of f (n ∷ ns) = f n + sum_of f ns

-- how many operations of a block are wide; 0 where there is no block
abbrev pub wide_or : Option Code → ℕ
wide_or None = 0
wide_or (Some c) = wide_in c.ops

-- how many operations of a block are wide, by number
abbrev pub wide_at : List Code → ℕ → ℕ
wide_at cs k = wide_or (slice_get cs k)
