-- What a block pushes, in terms of nodes: polynomials of these expressions, each computed in the width of its own.
use Rattle.std.specs.Prelude.{◌≡◌, ℕ, List, []}
use Rattle.ln_algebra.specs.Tree.{Tree}
use Rattle.ln_algebra.specs.Coefficient.{normal_coefficient}
use Rattle.ln_tree.specs.declared.shape.VarInfo.{VarInfo}
use Rattle.ln_bound.specs.declared.fitted.Width.{Width}
use Rattle.ln_code.specs.declared.op.Op.{Op}
use Rattle.ln_code.specs.declared.op.Op.TheVariants.{Push, Input as InputOp, Get, Set, Add, Sub, Mul, Neg as NegOp, Cut}
use Rattle.ln_code.specs.Numbers.{no_locals}
use Rattle.ln_code.specs.Rules.{Known, rules}
use Rattle.ln_code.specs.Part.{Code, lines_of}
use Rattle.ln_code.specs.Pushes.{AllPushed, Pushed, pushes}

-- a sum, difference, product or negation is done in this width
abbrev pub HasWidth : Op → Width → Type 0
HasWidth (Push c) v = Unit {0}
HasWidth (InputOp i) v = Unit {0}
HasWidth (Get j) v = Unit {0}
HasWidth (Set j) v = Unit {0}
HasWidth (Add w) v = w ≡ v
HasWidth (Sub w) v = w ≡ v
HasWidth (Mul w) v = w ≡ v
HasWidth (NegOp w) v = w ≡ v
HasWidth (Cut n) v = Unit {0}

-- what is pushed has the polynomial of one of these nodes, and the node's width where it is computed
pub record PushesNode (is_node : Tree → Width → Type 0) (p : Pushed Known) : Type 0 where
  pub node : Tree
  pub width : Width
  pub there : is_node node width
  pub same : (m : List ℕ) → normal_coefficient p.value.tree m ≡ normal_coefficient node m
  pub done : HasWidth p.op width

-- so does each of these
abbrev pub PushNodes : (Tree → Width → Type 0) → List (Pushed Known) → Type 0
PushNodes is_node ps = AllPushed (PushesNode is_node) ps

-- what a block pushes, by the rules
abbrev pub pushed_by : List VarInfo → Code → List (Pushed Known)
pushed_by vars c = pushes (rules vars c.depth) (lines_of c.ops c.pairs) (record { stack = []; locals = no_locals })
