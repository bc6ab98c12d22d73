-- The table of version 1, unchanged, with one bound in absolute value for each operation: what the rules of version 1 say of
-- ranges from -b to b.
use Rattle.std.specs.Prelude.{◌≡◌, ℕ, ◌&&◌, nat_le, unsigned_abs, List, Option, Some, None, map, slice_get, if◌then◌else◌}
use Rattle.ln_algebra.specs.Tree as tree
use Rattle.ln_algebra.specs.Tree.{Tree}
use Rattle.ln_interval.specs.Range.{Range}
use Rattle.ln_tree.specs.declared.shape.VarInfo.{VarInfo}
use Rattle.ln_bound.specs.declared.fitted.Width.{Width}
use Rattle.ln_bound.specs.Typed.{bound_of, two_of}
use Rattle.ln_bound.specs.Value.{size_of}
use Rattle.ln_bound.specs.Widths.{least, limit, no_wider, wider}
use Rattle.ln_code.specs.Engine.{Engine, Line, answer, next, when}
use Rattle.ln_code.specs.Numbers.{no_locals, with_local}
use Rattle.ln_code.specs.Rules.{Known}
use Rattle.ln_verify.specs.BlockRules.{balanced, block_rules, deepest, version_1}

-- what is known of a value: its bound, its width, and the expression whose value it is
pub record Bounded : Type 0 where
  pub bound : ℕ
  pub width : Width
  pub tree : Tree

-- the bound b is at least what it has to cover and fits the width
abbrev pub bounded : ℕ → ℕ → Width → Tree → Option Bounded
bounded enough b w t = when (nat_le enough b && nat_le b (limit w)) (record { bound = b; width = w; tree = t })

-- the lines of a block; version 1 has no rule on running sizes there
abbrev pub bound_rules : List VarInfo → Engine ℕ Bounded (ℕ → Option Bounded)
bound_rules vars = record {
  push = λ c b. bounded (unsigned_abs c) b (least b) (tree.Num c);
  input = λ v b. next (slice_get vars v) (λ i. bounded (size_of i) b (least b) (tree.Input v));
  again = λ x b. bounded x.bound b (wider x.width (least b)) x.tree;
  two = λ t w b x y. if no_wider x.width w && no_wider y.width w
      then bounded (bound_of t x.bound y.bound) b w (two_of t x.tree y.tree) else None;
  minus = λ w b x. if no_wider x.width w then bounded x.bound b w (tree.Neg x.tree) else None;
  cut = λ n b x. None;
  got = λ l j. l j;
  put = with_local;
  room = λ n. nat_le n deepest;
}

-- lines on bounds, as lines on ranges
abbrev pub on_ranges : List (Line ℕ) → List (Line Range)
on_ranges lines = map (λ x. record { op = x.op; bound = balanced x.bound }) lines

-- what the rules on ranges know of a value is what those on bounds know
pub record IsSame (k : Bounded) (x : Known) : Type 0 where
  pub range : x.range ≡ balanced k.bound
  pub width : x.width ≡ k.width
  pub tree : x.tree ≡ k.tree

-- version 1 is its table: on ranges from -b to b its rules know a value exactly where those on bounds do, and the same one
pub record IsOnBounds (vars : List VarInfo) (lines : List (Line ℕ)) : Type 0 where
  pub there : (k : Bounded) → answer (bound_rules vars) no_locals lines ≡ Some k →
      (x : Known) × (answer (block_rules version_1 vars) no_locals (on_ranges lines) ≡ Some x) × IsSame k x
  pub back : (x : Known) → answer (block_rules version_1 vars) no_locals (on_ranges lines) ≡ Some x →
      (k : Bounded) × (answer (bound_rules vars) no_locals lines ≡ Some k) × IsSame k x
