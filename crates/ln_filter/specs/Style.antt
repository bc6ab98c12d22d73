-- How the code of filters is written, and of which trees.
use Rattle.std.proofs.Common.{arith, refl, suc, sym, zero}
use Rattle.std.proofs.Math.Nat.{div-one, pow-zero}
use Rattle.std.specs.Prelude.{◌≡◌, ℕ, ◌+◌, ◌/◌, ◌^◌, ◌≤◌, All, List}
use Rattle.ln_algebra.specs.Tree.{Tree}
use Rattle.ln_tree.specs.declared.shape.VarInfo.{VarInfo}
use Rattle.ln_bound.specs.declared.fitted.Two.{Two}
use Rattle.ln_bound.specs.declared.fitted.Two.TheVariants.{Plus, Minus, Times}
use Rattle.ln_bound.specs.declared.fitted.Width.TheVariants.{W64}
use Rattle.ln_bound.specs.Typed.{Typed, TInput, TTwo, TPow, two_of, untyped}
use Rattle.ln_bound.specs.Value.{sizes}
use Rattle.ln_code.specs.declared.op.Triple.{Triple}
use Rattle.ln_code.specs.Kept.{no_triple}
use Rattle.ln_code.specs.StackCode.{Style}
use Rattle.ln_code.specs.Walk.{after_division}
use Rattle.ln_filter.specs.Steady.{AreSteady, IsSteady}
use Rattle.ln_filter.specs.Triples.{align, both, cut, excess, powered, product_of, raw_of, triple, whole}
use Rattle.ln_filter.specs.Tried.{IsSmall}

-- the triple of a variable, of a sum, difference or product and of a power's last product, before it is cut
abbrev pub raw : List VarInfo → List Triple → Typed → Triple
raw vars lets (TInput v p w) = whole (sizes vars v)
raw vars lets (TTwo o t u p w) = raw_of o (triple vars lets (untyped t)) (triple vars lets (untyped u))
raw vars lets (TPow t (suc n) p w) = product_of (powered (triple vars lets (untyped t)) n) (triple vars lets (untyped t))
raw vars lets _ = no_triple

-- how filters are written where the lets have these triples: each operation carries its node's triple and is 64 bits wide; operands of sums are
-- brought to one power of 2, and what is larger than 31 binary digits is cut
abbrev pub filter_style : List VarInfo → List Triple → Style Triple
filter_style vars lets = record {
  mark = λ t. triple vars lets (untyped t);
  raw = raw vars lets;
  excess = λ a. excess a.h;
  align = align;
  divided = cut;
  at_width = λ w. W64;
  none = no_triple;
}

-- a tree may be written where its nodes are steady: then its triple is small, as that of each such tree
pub record MayWrite (vars : List VarInfo) (lets : List Triple) (t : Tree) : Type 0 where
  pub lets_small : All IsSmall lets
  pub small : (u : Tree) → AreSteady vars lets u → IsSmall (triple vars lets u)
  pub steady : AreSteady vars lets t

-- ---- laws

-- an operation on two with steady nodes has operands with steady nodes, and a steady triple
pub operands_steady : (vars : List VarInfo) (lets : List Triple) (o : Two) (x y : Tree) → AreSteady vars lets (two_of o x y)
    → AreSteady vars lets x × AreSteady vars lets y × IsSteady (both o (triple vars lets x) (triple vars lets y))
operands_steady vars lets Plus x y h = h
operands_steady vars lets Minus x y h = h
operands_steady vars lets Times x y h = h

-- an operand may be divided as it wants
pub align_fits : (o : Two) (a b : Triple) → a.k ≤ 255 → b.k ≤ 255 → a.k + align o a b ≤ 255
align_fits Plus a b h k = omega arith
align_fits Minus a b h k = omega arith
align_fits Times a b h k = omega arith

-- a division by 1 changes nothing
pub cut_nothing : (a : Triple) → a ≡ cut 0 a
cut_nothing a =
    let e : a.k + 0 ≡ a.k = omega arith in
    let f : a.h / 2 ^ 0 ≡ a.h = rw pow-zero (div-one a.h) in
    rw (e, f) refl

-- and so none is written
pub after_cut : (n : ℕ) (a : Triple) → after_division cut n a ≡ cut n a
after_cut zero a = cut_nothing a
after_cut (suc n) a = refl

-- the last product of a power is divided to the power's triple
pub power_left : (a : Triple) (n : ℕ) → 1 ≤ n → powered a (suc n) ≡ after_division cut (excess (product_of (powered a n) a).h) (product_of (powered a n) a)
power_left a zero h = absurd (omega arith)
power_left a (suc n) h = sym (after_cut (excess (product_of (powered a (suc n)) a).h) (product_of (powered a (suc n)) a))
