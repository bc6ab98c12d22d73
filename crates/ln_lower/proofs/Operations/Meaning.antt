-- What code of blocks means by the rules: which trees may be written, and which values stand for them.
use Rattle.std.proofs.Common.{◌≡◌, ℕ, ◌≤◌, true, List, ap, arith}
use Rattle.std.specs.Prelude.{Option, Some}
use Rattle.ln_algebra.specs.Coefficient.{Series}
use Rattle.ln_algebra.specs.Tree.{Tree}
use Rattle.ln_tree.specs.declared.shape.VarInfo.{VarInfo}
use Rattle.ln_interval.specs.Range.{Range, Covers, IsOrdered, most}
use Rattle.ln_interval.proofs.Monotone.{covers_self, covers_then}
use Rattle.ln_bound.specs.declared.fitted.Width.{Width}
use Rattle.ln_bound.specs.Sound.{IsIn, Sound}
use Rattle.ln_bound.specs.Typed.{Typed, pair, width}
use Rattle.ln_bound.specs.Widths.{no_wider}
use Rattle.ln_code.specs.declared.op.Op.{Op}
use Rattle.ln_code.specs.Rules.{Known, rules}
use Rattle.ln_code.specs.Nodes.{IsNode}
use Rattle.ln_code.proofs.Following.Same.{Same}
use Rattle.ln_code.proofs.Building.Names.{closed, size_in, tree_in}
use Rattle.ln_code.proofs.Building.Runs.{Is, Meaning}
use Rattle.ln_lower.specs.Nodes.{HasWidth, PushesNode}
use Rattle.ln_lower.specs.StackCode.{block_style}
use Rattle.ln_lower.proofs.Subtrees.Bounding.{no_wider_trans}

-- the setting in which a block runs: the variables, the depth of the stack, and the nodes whose polynomials may be pushed
pub record Setting : Type 1 where
  pub vars : List VarInfo
  pub depth : ℕ
  pub is_node : Tree → Width → Type 0

-- ---- values

-- a value in place of a wanted one: its range is within the wanted range, it is no wider, and it has the wanted size and polynomial
pub record StandsFor (want v : Known) : Type 0 where
  pub covered : Covers want.range v.range
  pub ordered : IsOrdered v.range
  pub narrow : no_wider v.width want.width ≡ true
  pub size : v.size ≡ want.size
  pub same : Same v.tree want.tree

-- a wanted value is allowed: its range fits its width, its size is within 2^127 - 1, and its expression is a node of its width
pub record IsAllowed (at : Setting) (want : Known) : Type 0 where
  pub fits : IsIn want.range want.width
  pub small : want.size ≤ most
  pub node : at.is_node want.tree want.width

-- what is known of a tree's value, where this is its expression and its size
abbrev pub rooted : Typed → Tree → ℕ → Known
rooted t e s = record { range = pair t; width = width t; tree = e; size = s }

-- the value that the operations of a tree are to leave: of its range and width, and with its expression and size over these lets
abbrev pub wanted : List Typed → Typed → Known
wanted lets t = rooted t (tree_in lets t) (size_in lets t)

-- a tree that is sound after these lets, and whose nodes may be pushed
pub record IsGood (at : Setting) (lets : List Typed) (t : Typed) : Type 0 where
  pub sound : Sound at.vars lets t
  pub nodes : (e : Tree) (v : Width) → IsNode (closed lets) t e v → at.is_node e v

-- what code means in a setting
abbrev pub meaning : Setting → Meaning Range Known
meaning at = record {
  engine = rules at.vars at.depth;
  depth = at.depth;
  style = λ lets. block_style;
  good = λ lets t. IsGood at lets t;
  stands = λ lets t v. StandsFor (wanted lets t) v;
  may = PushesNode at.is_node;
}

-- a value in place of a wanted one is in place of one in a range that covers that range, and in a width that is no narrower
pub stands_wider : (a v : Known) (p : Range) (w : Width) → StandsFor a v → Covers p a.range → no_wider a.width w ≡ true
    → StandsFor (record a { range = p; width = w }) v
stands_wider a v p w x c n = record {
  covered = covers_then p a.range v.range c x.covered;
  ordered = x.ordered;
  narrow = no_wider_trans v.width a.width w x.narrow n;
  size = x.size;
  same = x.same;
}

-- a size that equals one within 2^127 - 1 is within it
pub small_as : {n m : ℕ} → n ≡ m → m ≤ most → n ≤ most
small_as e h = omega (arith, e, h)

-- one operation: it has a value of the wanted range, of no larger width, with the wanted size and polynomial
pub is_one : (at : Setting) (op : Op) (want : Known) (v : Width) (e : Tree) (n : ℕ) (o : Option Known) → IsAllowed at want
    → no_wider v want.width ≡ true → n ≡ want.size → Same e want.tree → HasWidth op want.width
    → o ≡ Some (record { range = want.range; width = v; tree = e; size = n }) → Is (meaning at) op o (StandsFor want)
is_one at op want v e n o ok g z q w i = record {
  value = record { range = want.range; width = v; tree = e; size = n };
  there = i;
  may = record { node = want.tree; width = want.width; there = ok.node; same = λ m. ap (λ (h : Series). h m) q.series; done = w };
  stands = record { covered = covers_self want.range; ordered = ok.fits.0; narrow = g; size = z; same = q };
}
