-- The rules on a block, before any row is seen: each range covers its operation over the operands' ranges and fits its width, no
-- operand is wider, each size is at most 2^127 - 1, and each value carries the expression that it is the value of.
use Rattle.std.specs.Prelude.{ℕ, ◌&&◌, nat_le, unsigned_abs, List, Option, None, slice_get, if◌then◌else◌}
use Rattle.ln_algebra.specs.Tree as tree
use Rattle.ln_algebra.specs.Tree.{Tree}
use Rattle.ln_interval.specs.Range.{Range, point, opposite, magnitude, most}
use Rattle.ln_tree.specs.declared.shape.VarInfo.{VarInfo}
use Rattle.ln_bound.specs.declared.fitted.Width.{Width}
use Rattle.ln_bound.specs.Sound.{covers, is_in}
use Rattle.ln_bound.specs.Typed.{range_of, bound_of, two_of}
use Rattle.ln_bound.specs.Widths.{least, wider, no_wider}
use Rattle.ln_code.specs.Engine.{Engine, when, next}
use Rattle.ln_code.specs.Numbers.{with_local}

-- what is known of a value: its range, its width, the expression whose value it is, and a size that no coefficient of that
-- expression's polynomial passes
pub record Known : Type 0 where
  pub range : Range
  pub width : Width
  pub tree : Tree
  pub size : ℕ

-- the range p covers what it has to cover and fits the width, and the size is at most 2^127 - 1
abbrev pub known : Range → Range → Width → ℕ → Tree → Option Known
known enough p w s t = when (covers p enough && is_in p w && nat_le s most) (record { range = p; width = w; tree = t; size = s })

-- the range that is declared for a variable
abbrev pub declared : VarInfo → Range
declared i = record { low = i.lo; high = i.hi }

-- over these variables, with a stack of this depth. What is pushed from outside or from a local has the least width that its
-- range fits, and is no narrower than the local
abbrev pub rules : List VarInfo → ℕ → Engine Range Known (ℕ → Option Known)
rules vars depth = record {
  push = λ c p. known (point c) p (least (magnitude p)) (unsigned_abs c) (tree.Num c);
  input = λ v p. next (slice_get vars v) (λ i. known (declared i) p (least (magnitude p)) 1 (tree.Input v));
  again = λ x p. known x.range p (wider x.width (least (magnitude p))) x.size x.tree;
  two = λ t w p x y. if no_wider x.width w && no_wider y.width w
      then known (range_of t x.range y.range) p w (bound_of t x.size y.size) (two_of t x.tree y.tree) else None;
  minus = λ w p x. if no_wider x.width w then known (opposite x.range) p w x.size (tree.Neg x.tree) else None;
  cut = λ n p x. None;
  got = λ l j. l j;
  put = with_local;
  room = λ n. nat_le n depth;
}
