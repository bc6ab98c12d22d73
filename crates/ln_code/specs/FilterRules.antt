-- The rules on a filter, before any row is seen: each triple covers its operation over its operands' triples, each size fits 64
-- bits, and each value carries the expression that it stands for.
use Rattle.std.specs.Prelude.{ℕ, zero, suc, ◌+◌, ◌*◌, ◌/◌, ◌^◌, ◌≤◌, ◌==◌, ◌&&◌, nat_le, Bool, ℤ, pos}
use Rattle.std.specs.Prelude.{◌-ℤ◌, ◌*ℤ◌, unsigned_abs, List, Option, None, slice_get, if◌then◌else◌}
use Rattle.std.specs.Int.{div_ceil}
use Rattle.ln_algebra.specs.Tree as tree
use Rattle.ln_algebra.specs.Tree.{Tree}
use Rattle.ln_tree.specs.declared.shape.VarInfo.{VarInfo}
use Rattle.ln_bound.specs.declared.fitted.Width.TheVariants.{W64, W128}
use Rattle.ln_bound.specs.declared.fitted.Two.{Two}
use Rattle.ln_bound.specs.declared.fitted.Two.TheVariants.{Plus, Minus, Times}
use Rattle.ln_bound.specs.Value.{size_of}
use Rattle.ln_bound.specs.Widths.{limit, no_wider}
use Rattle.ln_bound.specs.Typed.{two_of}
use Rattle.ln_code.specs.declared.op.Triple.{Triple}
use Rattle.ln_code.specs.Engine.{Engine, when, next}
use Rattle.ln_code.specs.Numbers.{with_local}

-- the truncated number h stands for the value v: it is at most H, and v is within e * 2^k of h * 2^k
pub record Approximates (a : Triple) (h v : ℤ) : Type 0 where
  pub small : unsigned_abs h ≤ a.h
  pub near : unsigned_abs (v -ℤ h *ℤ pos (2 ^ a.k)) ≤ a.e * 2 ^ a.k

-- what is known of a truncated number: its triple, the expression for whose value it stands, and a size that no coefficient of
-- that expression's polynomial passes
pub record FilterKnown : Type 0 where
  pub triple : Triple
  pub tree : Tree
  pub size : ℕ

-- the error after a division by 2^n
abbrev pub error_after : ℕ → ℕ → ℕ
error_after zero e = e
error_after (suc n) e = div_ceil e (2 ^ suc n) + 1

-- the least error of a pushed number, which is divided by 2^k
abbrev pub push_error : ℕ → ℕ
push_error zero = 0
push_error (suc k) = 1

-- the triple a has this k, its H and e are at least these, and its H fits 64 bits
abbrev pub covers : ℕ → ℕ → ℕ → Triple → Bool
covers k h e a = (a.k == k) && nat_le h a.h && nat_le e a.e && nat_le a.h (limit W64)

-- what is known of a number that carries the triple a and stands for the value of t, where a covers k, h and e and the size fits 128 bits
abbrev pub filter_known : ℕ → ℕ → ℕ → ℕ → Tree → Triple → Option FilterKnown
filter_known k h e size t a = when (covers k h e a && nat_le size (limit W128)) (record { triple = a; tree = t; size = size })

-- of a sum, difference or product: k and the sizes of H and e
abbrev pub two_known : Two → Triple → FilterKnown → FilterKnown → Option FilterKnown
two_known Plus a x y = if x.triple.k == y.triple.k then filter_known x.triple.k (x.triple.h + y.triple.h)
    (x.triple.e + y.triple.e) (x.size + y.size) (two_of Plus x.tree y.tree) a else None
two_known Minus a x y = if x.triple.k == y.triple.k then filter_known x.triple.k (x.triple.h + y.triple.h)
    (x.triple.e + y.triple.e) (x.size + y.size) (two_of Minus x.tree y.tree) a else None
two_known Times a x y = filter_known (x.triple.k + y.triple.k) (x.triple.h * y.triple.h)
    (x.triple.h * y.triple.e + y.triple.h * x.triple.e + x.triple.e * y.triple.e) (x.size * y.size) (two_of Times x.tree y.tree) a

-- over these variables, with a stack of this depth
abbrev pub filter_rules : List VarInfo → ℕ → Engine Triple FilterKnown (ℕ → Option FilterKnown)
filter_rules vars depth = record {
  push = λ c a. filter_known a.k (unsigned_abs c / 2 ^ a.k) (push_error a.k) (unsigned_abs c) (tree.Num c) a;
  input = λ v a. next (slice_get vars v) (λ i. filter_known 0 (size_of i) 0 1 (tree.Input v) a);
  again = λ x a. filter_known x.triple.k x.triple.h x.triple.e x.size x.tree a;
  two = λ t w a x y. if no_wider w W64 then two_known t a x y else None;
  minus = λ w a x. if no_wider w W64 then filter_known x.triple.k x.triple.h x.triple.e x.size (tree.Neg x.tree) a else None;
  cut = λ n a x. filter_known (x.triple.k + n) (x.triple.h / 2 ^ n) (error_after n x.triple.e) x.size x.tree a;
  got = λ l j. l j;
  put = with_local;
  room = λ n. nat_le n depth;
}
