-- The operations that are written for a filter, one node after the other.
use Rattle.std.specs.Prelude.{ℕ, zero, suc, pos, unsigned_abs, List, [], ◌∷◌, ◌++◌, slice_index_or}
use Rattle.ln_algebra.specs.Tree as tree
use Rattle.ln_algebra.specs.Tree.{Tree, Num, Name, Add, Sub, Pow}
use Rattle.ln_tree.specs.declared.shape.VarInfo.{VarInfo}
use Rattle.ln_bound.specs.declared.fitted.Two.{Two}
use Rattle.ln_bound.specs.declared.fitted.Two.TheVariants.{Plus, Minus, Times}
use Rattle.ln_bound.specs.declared.fitted.Width.TheVariants.{W64}
use Rattle.ln_bound.specs.Value.{sizes}
use Rattle.ln_code.specs.declared.op.Op.{Op}
use Rattle.ln_code.specs.declared.op.Op.TheVariants.{Push, Input, Get, Set, Mul, Neg}
use Rattle.ln_code.specs.declared.op.Triple.{Triple}
use Rattle.ln_code.specs.Engine.{Line, op_of}
use Rattle.ln_code.specs.Kept.{no_triple}
use Rattle.ln_code.specs.StackCode as code
pub use Rattle.ln_code.specs.StackCode.{line}
use Rattle.ln_filter.specs.Triples.{align, cut, excess, whole, leaf, product_of, powered, raw_of, triple, let_triples}

-- the division by 2^n of what has the triple a; none by 1
abbrev pub cut_lines : ℕ → Triple → List (Line Triple)
cut_lines n a = code.division cut n a

-- an operation that pushes what has the triple a, and the division that leaves 31 binary digits
abbrev pub trim_lines : Op → Triple → List (Line Triple)
trim_lines o a = line o a ∷ cut_lines (excess a.h) a

-- an operation on two with operands of triples a and b, each divided beside the other
abbrev pub two_lines : Two → List (Line Triple) → List (Line Triple) → Triple → Triple → List (Line Triple)
two_lines o xs ys a b = xs ++ (cut_lines (align o a b) a ++ (ys ++ (cut_lines (align o b a) b ++ trim_lines (op_of o W64) (raw_of o a b))))

-- a number of further factors, from the power m on; local 64 has the base, of triple a
abbrev pub factors : Triple → ℕ → ℕ → List (Line Triple)
factors a m zero = []
factors a m (suc n) = line (Get 64) a ∷ (trim_lines (Mul W64) (product_of (powered a m) a) ++ factors a (suc m) n)

-- from the base on the stack to its power n + 1, the base in local 64
abbrev pub power_of : Triple → ℕ → List (Line Triple)
power_of a zero = []
power_of a (suc n) = line (Set 64) no_triple ∷ (line (Get 64) a ∷ factors a 1 (suc n))

-- the operations of a tree, where the lets have these triples and are in the locals of their numbers
abbrev pub filter_lines : List VarInfo → List Triple → Tree → List (Line Triple)
filter_lines vars lets (Num c) = line (Push c) (leaf (unsigned_abs c)) ∷ []
filter_lines vars lets (tree.Input v) = trim_lines (Input v) (whole (sizes vars v))
filter_lines vars lets (Name j) = line (Get j) (slice_index_or lets j no_triple) ∷ []
filter_lines vars lets (tree.Neg e) = filter_lines vars lets e ++ (line (Neg W64) (triple vars lets e) ∷ [])
filter_lines vars lets (Add e f) = two_lines Plus (filter_lines vars lets e) (filter_lines vars lets f) (triple vars lets e) (triple vars lets f)
filter_lines vars lets (Sub e f) = two_lines Minus (filter_lines vars lets e) (filter_lines vars lets f) (triple vars lets e) (triple vars lets f)
filter_lines vars lets (tree.Mul e f) = two_lines Times (filter_lines vars lets e) (filter_lines vars lets f) (triple vars lets e) (triple vars lets f)
filter_lines vars lets (Pow e zero) = line (Push (pos 1)) (leaf 1) ∷ []
filter_lines vars lets (Pow e (suc n)) = filter_lines vars lets e ++ power_of (triple vars lets e) n

-- each let into the local of its number, from number j on, after lets with these triples
abbrev pub let_lines : List VarInfo → ℕ → List Triple → List Tree → List (Line Triple)
let_lines vars j done [] = []
let_lines vars j done (t ∷ ts) =
    filter_lines vars done t ++ (line (Set j) no_triple ∷ let_lines vars (suc j) (done ++ triple vars done t ∷ []) ts)

-- the operations of a predicate: those of its lets, each into the local of its number, then those of the sign expression
abbrev pub all_lines : List VarInfo → List Tree → Tree → List (Line Triple)
all_lines vars lets root = let_lines vars 0 [] lets ++ filter_lines vars (let_triples vars [] lets) root
