-- What code of filters means by the rules: what is known on the stack, which trees may be written, and which values stand for them.
use Rattle.std.specs.Prelude.{◌≡◌, ℕ, ◌≤◌, ℤ, unsigned_abs, All, List}
use Rattle.ln_algebra.specs.Tree as tree
use Rattle.ln_algebra.specs.Tree.{Tree}
use Rattle.ln_tree.specs.declared.shape.VarInfo.{VarInfo}
use Rattle.ln_bound.specs.declared.fitted.Two.{Two}
use Rattle.ln_bound.specs.declared.fitted.Width.{Width}
use Rattle.ln_bound.specs.declared.fitted.Width.TheVariants.{W64, W128}
use Rattle.ln_bound.specs.Sound.{Sound}
use Rattle.ln_bound.specs.Typed.{Typed, bound_of, two_of, untyped}
use Rattle.ln_bound.specs.Value.{sizes}
use Rattle.ln_bound.specs.Widths.{limit}
use Rattle.ln_code.specs.declared.op.Triple.{Triple}
use Rattle.ln_code.specs.FilterRules.{FilterKnown, filter_rules}
use Rattle.ln_code.specs.Nodes.{IsNode}
use Rattle.ln_code.proofs.Following.Same.{Same}
use Rattle.ln_code.proofs.Building.Names.{closed, size_in, tree_in}
use Rattle.ln_code.proofs.Building.Runs.{Meaning}
use Rattle.ln_filter.specs.Nodes.{PushesNode}
use Rattle.ln_filter.specs.Steady.{AreSteady}
use Rattle.ln_filter.specs.Tried.{IsSmall}
use Rattle.ln_filter.specs.Triples.{cut, leaf, raw_of, whole}
use Rattle.ln_filter.proofs.Operations.Style.{style_in, triple_in, triples_of}

-- ---- where operations run

-- the setting of a filter: the variables, how many values the stack may hold, and which trees are nodes that may be pushed
pub record Setting : Type 1 where
  pub vars : List VarInfo
  pub depth : ℕ
  pub is_node : Tree → Width → Type 0

-- ---- known values

-- a known value
abbrev pub at : Triple → Tree → ℕ → FilterKnown
at a t n = record { triple = a; tree = t; size = n }

-- a number of the source, already cut
abbrev pub number_known : ℤ → FilterKnown
number_known c = at (leaf (unsigned_abs c)) (tree.Num c) (unsigned_abs c)

-- a variable, not cut yet
abbrev pub variable_known : List VarInfo → ℕ → FilterKnown
variable_known vars v = at (whole (sizes vars v)) (tree.Input v) 1

-- a value after a division by 2^n
abbrev pub cut_known : ℕ → FilterKnown → FilterKnown
cut_known n k = at (cut n k.triple) k.tree k.size

-- the opposite of a value
abbrev pub neg_known : FilterKnown → FilterKnown
neg_known k = at k.triple (tree.Neg k.tree) k.size

-- a sum, a difference or a product before it is cut
abbrev pub raw_known : Two → FilterKnown → FilterKnown → FilterKnown
raw_known k x y = at (raw_of k x.triple y.triple) (two_of k x.tree y.tree) (bound_of k x.size y.size)

-- a value whose number fits 64 bits and whose size fits 128
pub record Fits (k : FilterKnown) : Type 0 where
  pub number : k.triple.h ≤ limit W64
  pub size : k.size ≤ limit W128

-- an expression with the polynomial of a node
pub record OfNode (r : Setting) (t : Tree) : Type 0 where
  pub node : Tree
  pub width : Width
  pub there : r.is_node node width
  pub same : Same t node

-- a value that may be pushed: it fits, and has the polynomial of a node
pub record MayPush (r : Setting) (k : FilterKnown) : Type 0 where
  pub fits : Fits k
  pub node : OfNode r k.tree

-- ---- trees

-- a tree that may be written after these lets: sound and steady, after lets with small triples, and its nodes may be pushed
pub record IsGood (r : Setting) (lets : List Typed) (t : Typed) : Type 0 where
  pub sound : Sound r.vars lets t
  pub steady : AreSteady r.vars (triples_of r.vars lets) (untyped t)
  pub small : All IsSmall (triples_of r.vars lets)
  pub nodes : (e : Tree) (v : Width) → IsNode (closed lets) t e v → r.is_node e v

-- a value that stands for a tree: it has the tree's triple and polynomial, and a size up to the tree's
pub record StandsFor (r : Setting) (lets : List Typed) (t : Typed) (v : FilterKnown) : Type 0 where
  pub triple : v.triple ≡ triple_in r.vars lets t
  pub fits : v.size ≤ size_in lets t
  pub same : Same v.tree (tree_in lets t)

-- what code means in a setting
abbrev pub meaning : Setting → Meaning Triple FilterKnown
meaning r = record {
  engine = filter_rules r.vars r.depth;
  depth = r.depth;
  style = style_in r.vars;
  good = IsGood r;
  stands = StandsFor r;
  may = PushesNode r.is_node;
}
