-- Proves that where the machine of a filter has a result, the machine as C has it returns its number at 64 bits, and no operation is wide.
use Rattle.std.proofs.Common.{◌≡◌, ℕ, ℤ, suc, ◌≤◌, ◌^◌, Bool, true, false, List, [], ◌∷◌, refl, ap, arith, neg_ℤ, unsigned_abs, ◌&&◌, pos, negsuc}
use Rattle.std.specs.Prelude.{Option, Some, None, if◌then◌else◌, ◌==◌, slice_get}
use Rattle.std.proofs.lemmas.Bool.{and_parts, lt-ltb}
use Rattle.ln_bound.specs.declared.fitted.Width.{Width}
use Rattle.ln_bound.specs.declared.fitted.Width.TheVariants.{W64, W128}
use Rattle.ln_bound.specs.declared.fitted.Two.{Two}
use Rattle.ln_bound.specs.declared.fitted.Two.TheVariants.{Plus, Minus, Times}
use Rattle.ln_bound.specs.Widths.{limit, wider, no_wider}
use Rattle.ln_code.specs.declared.op.Op.{Op}
use Rattle.ln_code.specs.declared.op.Op.TheVariants.{Push, Input, Get, Set, Add, Sub, Mul, Neg, Cut}
use Rattle.ln_code.specs.declared.op.Triple.{Triple}
use Rattle.ln_code.specs.Engine.{State, Line, next, step, run, with_two, with_one, pushed}
use Rattle.ln_code.specs.Numbers.{result_of, cut_by, fits, with_local}
use Rattle.ln_code.specs.Exact.{Held, held, held_at, exact_filter}
use Rattle.ln_code.proofs.Engines.Follow.{Reaches, Follows, when_some}
use Rattle.ln_code.proofs.Following.Known.{next_some}
use Rattle.ln_cemit.specs.Ways.{filter_way, ways}
use Rattle.ln_cemit.specs.Emit.{constant_wide, wide_at, wide_op, wide_lines}
use Rattle.ln_cemit.specs.Checked.{Sized, sized, checked}
use Rattle.ln_cemit.proofs.Meanings.Numbers.{within}

-- the same number, 64 bits wide
pub record IsNarrow (h : Held) (x : Sized) : Type 0 where
  pub same : x.number ≡ h.number
  pub width : x.width ≡ W64

-- what the machine of a filter keeps
held_says : (a : Triple) (z : ℤ) (h : Held) → held a z ≡ Some h → (fits W64 z ≡ true) × (record { number = z; error = a.e } ≡ h)
held_says a z h q =
    let r = when_some _ _ _ q in
    let p = and_parts _ _ r.0 in
    (p.1, r.1)

held_at_says : (w : Width) (a : Triple) (z : ℤ) (h : Held) → held_at w a z ≡ Some h → (w ≡ W64) × (held a z ≡ Some h)
held_at_says W64 a z h q = (refl, q)
held_at_says W128 a z h q = cc

reached : (a : Triple) (z : ℤ) (h : Held) → held a z ≡ Some h → Reaches IsNarrow h (sized W64 z)
reached a z h q =
    let r = held_says a z h q in
    rw r.0 (record { same = ap (λ (y : Held). y.number) r.1; width = refl })

narrow_input : (zs : List ℤ) (v : ℕ) (a : Triple) (h : Held) → next (slice_get zs v) (λ z. held a z) ≡ Some h
    → Reaches IsNarrow h (next (slice_get zs v) (λ z. sized W64 z))
narrow_input zs v a h q =
    let r = next_some (slice_get zs v) (λ (z : ℤ). held a z) h q in
    rw r.1 (reached a r.0 h r.2)

-- ---- an operand of the machine as C has it, with the number m and the width u, for the operand x of the machine of a filter
module _ (a : Triple) (x h : Held) (m : ℤ) (u : Width) (e : m ≡ x.number) (f : u ≡ W64) where
  -- a local that is read
  narrow_again : held a x.number ≡ Some h → Reaches IsNarrow h (sized (wider u W64) m)
  narrow_again q = rw (e, f) (reached a x.number h q)

  -- a sum, a difference or a product, with the number n and the width v for the second operand y
  narrow_two : (t : Two) (w : Width) (y : Held) (n : ℤ) (v : Width) → n ≡ y.number → v ≡ W64
      → held_at w a (result_of t x.number y.number) ≡ Some h → Reaches IsNarrow h (if no_wider u w && no_wider v w then sized w (result_of t m n) else None)
  narrow_two t w y n v g i q =
      let r = held_at_says w a (result_of t x.number y.number) h q in
      rw (e, f, g, i, r.0) (reached a (result_of t x.number y.number) h r.1)

  -- a negation
  narrow_minus : (w : Width) → held_at w a (neg_ℤ x.number) ≡ Some h → Reaches IsNarrow h (if no_wider u w then sized w (neg_ℤ m) else None)
  narrow_minus w q =
      let r = held_at_says w a (neg_ℤ x.number) h q in
      rw (e, f, r.0) (reached a (neg_ℤ x.number) h r.1)

  -- low bits that are cut off
  narrow_cut : (n : ℕ) → held a (cut_by n x.number) ≡ Some h → Reaches IsNarrow h (if no_wider u W64 then sized W64 (cut_by n m) else None)
  narrow_cut n q = rw (e, f) (reached a (cut_by n x.number) h q)

-- each local of a filter's machine has the same number, 64 bits wide, in the machine as C has it
abbrev pub NarrowLocals : (ℕ → Option Held) → (ℕ → Option Sized) → Type 0
NarrowLocals l m = (j : ℕ) (h : Held) → l j ≡ Some h → Reaches IsNarrow h (m j)

narrow_put : (l : ℕ → Option Held) (m : ℕ → Option Sized) (j : ℕ) (v : Held) (x : Sized) → NarrowLocals l m → IsNarrow v x
    → NarrowLocals (with_local l j v) (with_local m j x)
narrow_put l m j v x h f i k = by_case (i == j)
  where
    by_case : (b : Bool) → (if b then Some v else l i) ≡ Some k → Reaches IsNarrow k (if b then Some x else m i)
    by_case true q = let r : v ≡ k = cc in rw (← r) f
    by_case false q = h i k q

-- the machine as C has it follows that of a filter, at 64 bits
pub narrow_follows : (zs : List ℤ) → Follows (exact_filter zs) (checked zs) filter_way IsNarrow NarrowLocals
narrow_follows zs = record {
  push = λ c a h q. reached a (cut_by a.k c) h q;
  input = narrow_input zs;
  again = λ y x a h f q. narrow_again a y h x.number x.width f.same f.width q;
  two = λ t w a y y' x x' h f g q. narrow_two a y h x.number x.width f.same f.width t w y' x'.number x'.width g.same g.width q;
  minus = λ w a y x h f q. narrow_minus a y h x.number x.width f.same f.width w q;
  cut = λ n a y x h f q. narrow_cut a y h x.number x.width f.same f.width n q;
  got = λ l m j h k q. k j h q;
  put = narrow_put;
  room = λ n q. refl;
}

-- ---- no wide operation

short_constant : (z : ℤ) → unsigned_abs z ≤ limit W64 → constant_wide z ≡ 0
short_constant (pos n) h = rw (lt-ltb n (2 ^ 63) (omega (arith, h))) refl
short_constant (negsuc n) h = rw (lt-ltb (suc n) (2 ^ 63) (omega (arith, h))) refl

no_two : (zs : List ℤ) (t : Two) (w : Width) (a : Triple) (l : ℕ → Option Held) (ys : List Held) (u : State Held (ℕ → Option Held))
    → with_two (exact_filter zs) ((exact_filter zs).two t w a) l ys ≡ Some u → wide_at w ≡ 0
no_two zs t W64 a l ys u q = refl
no_two zs t W128 a l [] u q = cc
no_two zs t W128 a l (y ∷ []) u q = cc
no_two zs t W128 a l (y ∷ (x ∷ ys)) u q = cc

no_neg : (zs : List ℤ) (w : Width) (a : Triple) (l : ℕ → Option Held) (ys : List Held) (u : State Held (ℕ → Option Held))
    → with_one (exact_filter zs) ((exact_filter zs).minus w a) l ys ≡ Some u → wide_at w ≡ 0
no_neg zs W64 a l ys u q = refl
no_neg zs W128 a l [] u q = cc
no_neg zs W128 a l (y ∷ ys) u q = cc

no_wide_step : (zs : List ℤ) (oper : Op) (a : Triple) (l : ℕ → Option Held) (ys : List Held) (u : State Held (ℕ → Option Held))
    → step (exact_filter zs) oper a l ys ≡ Some u → wide_op oper (filter_way a) ≡ 0
no_wide_step zs (Push c) a l ys u q =
    let r = next_some (held a (cut_by a.k c)) (pushed (exact_filter zs) l ys) u q in
    let p = held_says a (cut_by a.k c) r.0 r.1 in
    short_constant (cut_by a.k c) (within W64 (cut_by a.k c) p.0)
no_wide_step zs (Input v) a l ys u q = refl
no_wide_step zs (Get j) a l ys u q = refl
no_wide_step zs (Set j) a l ys u q = refl
no_wide_step zs (Add w) a l ys u q = no_two zs Plus w a l ys u q
no_wide_step zs (Sub w) a l ys u q = no_two zs Minus w a l ys u q
no_wide_step zs (Mul w) a l ys u q = no_two zs Times w a l ys u q
no_wide_step zs (Neg w) a l ys u q = no_neg zs w a l ys u q
no_wide_step zs (Cut m) a l ys u q = refl

-- lines that the machine of a filter runs through have no operation at 128 bits
pub no_wide : (zs : List ℤ) (lines : List (Line Triple)) (s u : State Held (ℕ → Option Held)) → run (exact_filter zs) lines s ≡ Some u
    → wide_lines (ways filter_way lines) ≡ 0
no_wide zs [] s u q = refl
no_wide zs (x ∷ xs) s u q =
    let r = next_some (step (exact_filter zs) x.op x.bound s.locals s.stack) (λ t. run (exact_filter zs) xs t) u q in
    rw (no_wide_step zs x.op x.bound s.locals s.stack r.0 r.1, no_wide zs xs r.0 u r.2) refl
