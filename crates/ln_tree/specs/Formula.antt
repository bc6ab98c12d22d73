-- Resolved expressions without where they lie in memory.
use Rattle.std.specs.Prelude.{ℕ, ◌+◌, ℤ, List, [], ◌∷◌}
use Rattle.ln_base.specs.declared.span.Span.{Span}
use Rattle.ln_algebra.specs.Tree as algebra
use Rattle.ln_algebra.specs.Tree.{Tree}
use Rattle.ln_tree.specs.declared.expr.Expr.{Expr}
use Rattle.ln_tree.specs.declared.expr.Node.{Node}
use Rattle.ln_tree.specs.declared.expr.Node.TheVariants.{Num, Input, Name, Neg', Add', Sub', Mul', Pow'}
use Rattle.ln_tree.specs.declared.shape.VarInfo.{VarInfo}
use Rattle.ln_tree.specs.Variables.{number_or_end}

-- an expression whose names are resolved; each node with the span of its own token, an input with its argument and coordinate
pub data Formula : Type 0 where
  FNum : Span → ℤ → Formula
  FInput : Span → ℕ → ℕ → Formula
  FName : Span → ℕ → Formula
  FNeg : Span → Formula → Formula
  FAdd : Span → Formula → Formula → Formula
  FSub : Span → Formula → Formula → Formula
  FMul : Span → Formula → Formula → Formula
  FPow : Span → Formula → ℕ → Formula

-- the formula of a node of the program whose own token has this span
abbrev pub node_formula : Span → Node → Formula
node_formula at (Num c) = FNum at c
node_formula at (Input v) = FInput at v.arg v.coord
node_formula at (Name j) = FName at j
node_formula at (Neg' p a x) = FNeg at (node_formula a x)
node_formula at (Add' p a x q b y) = FAdd at (node_formula a x) (node_formula b y)
node_formula at (Sub' p a x q b y) = FSub at (node_formula a x) (node_formula b y)
node_formula at (Mul' p a x q b y) = FMul at (node_formula a x) (node_formula b y)
node_formula at (Pow' p a x n) = FPow at (node_formula a x) n

-- the formula of an expression
abbrev pub formula : Expr → Formula
formula e = node_formula e.at e.node

-- how many nodes it has
abbrev pub node_count : Formula → ℕ
node_count (FNum at c) = 1
node_count (FInput at a c) = 1
node_count (FName at j) = 1
node_count (FNeg at e) = node_count e + 1
node_count (FAdd at e f) = node_count e + node_count f + 1
node_count (FSub at e f) = node_count e + node_count f + 1
node_count (FMul at e f) = node_count e + node_count f + 1
node_count (FPow at e n) = node_count e + 1

-- how many nodes several have together
abbrev pub node_counts : List Formula → ℕ
node_counts [] = 0
node_counts (e ∷ es) = node_count e + node_counts es

-- the tree of a formula, whose inputs are the numbers of its variables
abbrev pub tree : List VarInfo → Formula → Tree
tree vars (FNum at c) = algebra.Num c
tree vars (FInput at a c) = algebra.Input (number_or_end vars a c)
tree vars (FName at j) = algebra.Name j
tree vars (FNeg at e) = algebra.Neg (tree vars e)
tree vars (FAdd at e f) = algebra.Add (tree vars e) (tree vars f)
tree vars (FSub at e f) = algebra.Sub (tree vars e) (tree vars f)
tree vars (FMul at e f) = algebra.Mul (tree vars e) (tree vars f)
tree vars (FPow at e n) = algebra.Pow (tree vars e) n

-- the tree of an expression over variables
abbrev pub tree_of : List VarInfo → Expr → Tree
tree_of vars e = tree vars (formula e)
