-- The error of what a filter leaves is that of the operation that pushed it.
use Rattle.std.proofs.Common.{◌≡◌, ℕ, ℤ, ◌-◌, false, List, [], ◌∷◌, length, refl, suc, ap, arith, neg_ℤ, sym}
use Rattle.std.specs.Prelude.{Option, Some, None, ◌==◌, if◌then◌else◌, slice_get}
use Rattle.std.proofs.lemmas.Bool.Decides.{nat_tests}
use Rattle.ln_bound.specs.declared.fitted.Width.{Width}
use Rattle.ln_bound.specs.declared.fitted.Width.TheVariants.{W64, W128}
use Rattle.ln_bound.specs.declared.fitted.Two.TheVariants.{Plus, Minus, Times}
use Rattle.ln_code.specs.declared.op.Op.{Op}
use Rattle.ln_code.specs.declared.op.Op.TheVariants.{Push, Input, Get, Set, Add, Sub, Mul, Neg, Cut}
use Rattle.ln_code.specs.declared.op.Triple.{Triple}
use Rattle.ln_code.specs.Engine.{State, next, pushed, with_one, with_two, stored, step, run, only, answer}
use Rattle.ln_code.specs.Numbers.{cut_by, result_of, no_locals}
use Rattle.ln_code.specs.Exact.{Held, held, held_at, exact_filter}
use Rattle.ln_code.specs.Errors.{size_after, error_behind, left_error}
use Rattle.ln_code.specs.Part.{lines_of}
use Rattle.ln_code.proofs.Engines.Follow.{when_some}
use Rattle.ln_code.proofs.Following.Known.{next_some}

-- the lowest value has the error d
abbrev LowestHas : List Held → ℕ → Type 0
LowestHas [] d = Unit {0}
LowestHas (x ∷ []) d = x.error ≡ d
LowestHas (x ∷ (y ∷ ys)) d = LowestHas (y ∷ ys) d

-- without the last value
lower : (x : Held) (xs : List Held) (d : ℕ) → LowestHas (x ∷ xs) d → LowestHas xs d
lower x [] d h = tt
lower x (y ∷ ys) d h = h

-- one value more
upper : (v : Held) (s : List Held) (e d : ℕ) → v.error ≡ e → LowestHas s d → LowestHas (v ∷ s) (if suc (length s) == 1 then e else d)
upper v [] e d h l = h
upper v (x ∷ xs) e d h l =
    let f : (suc (suc (length xs)) == 1) ≡ false = grind (arith, nat_tests) in
    rw f l

-- what a step leaves
record Left (t : State Held (ℕ → Option Held)) (n e d : ℕ) : Type 0 where
  size : length t.stack ≡ n
  lowest : LowestHas t.stack d

abbrev Locals : Type 0
Locals = ℕ → Option Held

held_error : (a : Triple) (z : ℤ) (v : Held) → held a z ≡ Some v → v.error ≡ a.e
held_error a z v q = let r = when_some _ _ _ q in sym (ap (λ (h : Held). h.error) r.1)

at_error : (w : Width) (a : Triple) (z : ℤ) (v : Held) → held_at w a z ≡ Some v → v.error ≡ a.e
at_error W64 a z v q = held_error a z v q
at_error W128 a z v q = cc

input_error : (zs : List ℤ) (i : ℕ) (a : Triple) (v : Held) → next (slice_get zs i) (λ z. held a z) ≡ Some v → v.error ≡ a.e
input_error zs i a v q = let r = next_some (slice_get zs i) (λ (z : ℤ). held a z) v q in held_error a r.0 v r.2

get_error : (o : Option Held) (a : Triple) (v : Held) → next o (λ (y : Held). held a y.number) ≡ Some v → v.error ≡ a.e
get_error o a v q = let r = next_some o (λ (y : Held). held a y.number) v q in held_error a r.0.number v r.2

-- a value that is pushed
grows : (zs : List ℤ) (o : Option Held) (l : Locals) (s : List Held) (t : State Held Locals) (e d : ℕ) →
    ((v : Held) → o ≡ Some v → v.error ≡ e) → LowestHas s d → next o (pushed (exact_filter zs) l s) ≡ Some t →
    Left t (suc (length s)) e (if suc (length s) == 1 then e else d)
grows zs None l s t e d g h q = cc
grows zs (Some v) l s t e d g h q =
    let r : record { stack = v ∷ s; locals = l } ≡ t = cc in
    rw (← r) (record { size = refl; lowest = upper v s e d (g v refl) h })

one_left : (zs : List ℤ) (f : Held → Option Held) (l : Locals) (s : List Held) (t : State Held Locals) (e d : ℕ) →
    ((x v : Held) → f x ≡ Some v → v.error ≡ e) → LowestHas s d → with_one (exact_filter zs) f l s ≡ Some t →
    Left t (length s) e (if length s == 1 then e else d)
one_left zs f l [] t e d g h q = cc
one_left zs f l (x ∷ s) t e d g h q = grows zs (f x) l s t e d (g x) (lower x s d h) q

two_left : (zs : List ℤ) (f : Held → Held → Option Held) (l : Locals) (s : List Held) (t : State Held Locals) (e d : ℕ) →
    ((x y v : Held) → f x y ≡ Some v → v.error ≡ e) → LowestHas s d → with_two (exact_filter zs) f l s ≡ Some t →
    Left t (length s - 1) e (if length s - 1 == 1 then e else d)
two_left zs f l [] t e d g h q = cc
two_left zs f l (y ∷ []) t e d g h q = cc
two_left zs f l (y ∷ (x ∷ s)) t e d g h q =
    let n : suc (suc (length s)) - 1 ≡ suc (length s) = omega arith in
    rw n (grows zs (f x y) l s t e d (g x y) (lower x s d (lower y (x ∷ s) d h)) q)

stored_left : (zs : List ℤ) (j : ℕ) (l : Locals) (s : List Held) (t : State Held Locals) (e d : ℕ) → LowestHas s d
    → stored (exact_filter zs) j l s ≡ Some t → Left t (length s - 1) e d
stored_left zs j l [] t e d h q = cc
stored_left zs j l (x ∷ s) t e d h q =
    let r : record { stack = s; locals = (exact_filter zs).put l j x } ≡ t = cc in
    let n : suc (length s) - 1 ≡ length s = omega arith in
    rw (← r, n) (record { size = refl; lowest = lower x s d h })

step_left : (zs : List ℤ) (op : Op) (a : Triple) (l : Locals) (s : List Held) (t : State Held Locals) (d : ℕ) → LowestHas s d →
    step (exact_filter zs) op a l s ≡ Some t →
    Left t (size_after op (length s)) a.e (error_behind op (size_after op (length s)) a.e d)
step_left zs (Push c) a l s t d h q = grows zs (held a (cut_by a.k c)) l s t a.e d (held_error a (cut_by a.k c)) h q
step_left zs (Input v) a l s t d h q = grows zs (next (slice_get zs v) (λ z. held a z)) l s t a.e d (input_error zs v a) h q
step_left zs (Get j) a l s t d h q = grows zs (next (l j) (λ (y : Held). held a y.number)) l s t a.e d (get_error (l j) a) h q
step_left zs (Set j) a l s t d h q = stored_left zs j l s t a.e d h q
step_left zs (Add w) a l s t d h q =
    two_left zs ((exact_filter zs).two Plus w a) l s t a.e d (λ x y v r. at_error w a (result_of Plus x.number y.number) v r) h q
step_left zs (Sub w) a l s t d h q =
    two_left zs ((exact_filter zs).two Minus w a) l s t a.e d (λ x y v r. at_error w a (result_of Minus x.number y.number) v r) h q
step_left zs (Mul w) a l s t d h q =
    two_left zs ((exact_filter zs).two Times w a) l s t a.e d (λ x y v r. at_error w a (result_of Times x.number y.number) v r) h q
step_left zs (Neg w) a l s t d h q = one_left zs ((exact_filter zs).minus w a) l s t a.e d (λ x v r. at_error w a (neg_ℤ x.number) v r) h q
step_left zs (Cut n) a l s t d h q = one_left zs ((exact_filter zs).cut n a) l s t a.e d (λ x v r. held_error a (cut_by n x.number) v r) h q

run_left : (zs : List ℤ) (ops : List Op) (ts : List Triple) (s u : State Held Locals) (d : ℕ) → LowestHas s.stack d →
    run (exact_filter zs) (lines_of ops ts) s ≡ Some u →
    LowestHas u.stack (left_error ops ts (length s.stack) d)
run_left zs [] ts s u d h q = let r : s ≡ u = cc in rw (← r) h
run_left zs (o ∷ os) [] s u d h q = let r : s ≡ u = cc in rw (← r) h
run_left zs (o ∷ os) (a ∷ as') s u d h q =
    let r = next_some (step (exact_filter zs) o a s.locals s.stack) (λ (t : State Held Locals). run (exact_filter zs) (lines_of os as') t) u q in
    let w = step_left zs o a s.locals s.stack r.0 d h r.1 in
    rw w.size at (run_left zs os as' r.0 u (error_behind o (size_after o (length s.stack)) a.e d) w.lowest r.2)

only_has : (s : List Held) (h : Held) (d : ℕ) → LowestHas s d → only s ≡ Some h → h.error ≡ d
only_has [] h d l q = cc
only_has (x ∷ []) h d l q = let r : x ≡ h = cc in rw (← r) l
only_has (x ∷ (y ∷ ys)) h d l q = cc

-- what a filter leaves has the error of the operation that pushed it
pub left_has : (zs : List ℤ) (ops : List Op) (ts : List Triple) (h : Held) → answer (exact_filter zs) no_locals (lines_of ops ts) ≡ Some h
    → h.error ≡ left_error ops ts 0 0
left_has zs ops ts h q =
    let r = next_some (run (exact_filter zs) (lines_of ops ts) (record { stack = []; locals = no_locals })) (λ (s : State Held Locals). only s.stack) h q in
    only_has r.0.stack h (left_error ops ts 0 0) (run_left zs ops ts (record { stack = []; locals = no_locals }) r.0 0 tt r.1) r.2
