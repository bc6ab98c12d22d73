-- The rules on the lines of a block and of a filter, in both versions: they differ in what the range of an input has to cover,
-- and in the running size of an input. A bound b of version 1 stands for the range -b .. b.
use Rattle.std.specs.Prelude.{ℕ, ◌+◌, ◌/◌, ◌^◌, ◌&&◌, nat_le, pos, neg_ℤ, unsigned_abs, List, Option, None, slice_get, if◌then◌else◌}
use Rattle.ln_algebra.specs.Tree as tree
use Rattle.ln_interval.specs.Range.{Range, magnitude, opposite, point}
use Rattle.ln_tree.specs.declared.shape.VarInfo.{VarInfo}
use Rattle.ln_bound.specs.declared.fitted.Width.TheVariants.{W64}
use Rattle.ln_bound.specs.Typed.{range_of}
use Rattle.ln_bound.specs.Typed.{bound_of, two_of}
use Rattle.ln_bound.specs.Value.{size_of}
use Rattle.ln_bound.specs.Widths.{least, no_wider, wider}
use Rattle.ln_code.specs.declared.op.Triple.{Triple}
use Rattle.ln_code.specs.Engine.{Engine, next}
use Rattle.ln_code.specs.FilterRules.{FilterKnown, error_after, filter_known, push_error, two_known}
use Rattle.ln_code.specs.Numbers.{with_local}
use Rattle.ln_code.specs.Rules.{Known, declared, known}

-- the range of a bound
abbrev pub balanced : ℕ → Range
balanced b = record { low = neg_ℤ (pos b); high = pos b }

-- a version: its number, what the range of an input covers, and the running size of an input
pub record Version : Type 0 where
  pub number : ℕ
  pub range : VarInfo → Range
  pub size : VarInfo → ℕ

-- one bound for each operation; an input's is at least the variable's largest absolute value, and at least 1
abbrev pub version_1 : Version
version_1 = record { number = 1; range = λ i. balanced (size_of i); size = size_of }

-- a low and a high end for each operation; an input's cover the variable's range
abbrev pub version_2 : Version
version_2 = record { number = 2; range = declared; size = λ i. 1 }

-- how deep the stack may be
abbrev pub deepest : ℕ
deepest = 2048

-- the lines of a block
abbrev pub block_rules : Version → List VarInfo → Engine Range Known (ℕ → Option Known)
block_rules v vars = record {
  push = λ c p. known (point c) p (least (magnitude p)) (unsigned_abs c) (tree.Num c);
  input = λ k p. next (slice_get vars k) (λ i. known (v.range i) p (least (magnitude p)) (v.size i) (tree.Input k));
  again = λ x p. known x.range p (wider x.width (least (magnitude p))) x.size x.tree;
  two = λ t w p x y. if no_wider x.width w && no_wider y.width w
      then known (range_of t x.range y.range) p w (bound_of t x.size y.size) (two_of t x.tree y.tree) else None;
  minus = λ w p x. if no_wider x.width w then known (opposite x.range) p w x.size (tree.Neg x.tree) else None;
  cut = λ n p x. None;
  got = λ l j. l j;
  put = with_local;
  room = λ n. nat_le n deepest;
}

-- the lines of a filter
abbrev pub triple_rules : Version → List VarInfo → Engine Triple FilterKnown (ℕ → Option FilterKnown)
triple_rules v vars = record {
  push = λ c a. filter_known a.k (unsigned_abs c / 2 ^ a.k) (push_error a.k) (unsigned_abs c) (tree.Num c) a;
  input = λ k a. next (slice_get vars k) (λ i. filter_known 0 (size_of i) 0 (v.size i) (tree.Input k) a);
  again = λ x a. filter_known x.triple.k x.triple.h x.triple.e x.size x.tree a;
  two = λ t w a x y. if no_wider w W64 then two_known t a x y else None;
  minus = λ w a x. if no_wider w W64 then filter_known x.triple.k x.triple.h x.triple.e x.size (tree.Neg x.tree) a else None;
  cut = λ n a x. filter_known (x.triple.k + n) (x.triple.h / 2 ^ n) (error_after n x.triple.e) x.size x.tree a;
  got = λ l j. l j;
  put = with_local;
  room = λ n. nat_le n deepest;
}
