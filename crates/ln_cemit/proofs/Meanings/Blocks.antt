-- The body of a block or a filter, by induction over its operations: each slot is a declaration that has the value of the machine.
use Rattle.std.proofs.Common.{◌≡◌, ℕ, zero, suc, ◌+◌, ◌/◌, ◌^◌, ◌<◌, ◌≤◌, ◌&&◌, Bool, true, false, List, [], ◌∷◌, length, Option, Some}
use Rattle.std.proofs.Common.{None, refl, sym, ap, ◌∙◌, subst, arith, inl, inr}
use Rattle.std.specs.Prelude.{nat_lt, ◌==◌, ℤ, pos, negsuc, ◌-ℤ◌, neg_ℤ, int_lt, int_div, unsigned_abs, slice_get, if◌then◌else◌}
use Rattle.std.proofs.lemmas.Nat.{pow_pos, pow_below, div_below}
use Rattle.std.proofs.lemmas.Bool.{and_parts, cases_lt, lt-ltb, le-ltb, ltb-true, ltb-false}
use Rattle.ln_bound.specs.declared.fitted.Width.{Width}
use Rattle.ln_bound.specs.declared.fitted.Width.TheVariants.{W64, W128}
use Rattle.ln_bound.specs.declared.fitted.Two.{Two}
use Rattle.ln_bound.specs.declared.fitted.Two.TheVariants.{Plus, Minus, Times}
use Rattle.ln_bound.specs.Widths.{limit, wider, no_wider}
use Rattle.ln_code.specs.declared.op.Op.{Op}
use Rattle.ln_code.specs.declared.op.Op.TheVariants.{Push, Input, Get, Set, Add, Sub, Mul, Neg, Cut}
use Rattle.ln_code.specs.Engine.{State, Line, next, step, run, only, pushed, with_two}
use Rattle.ln_code.specs.Numbers.{result_of, cut_by, with_local, no_locals}
use Rattle.ln_code.proofs.Engines.Follow.{when_some}
use Rattle.ln_code.proofs.Following.Known.{next_some, if_some, no_wider_limit}
use Rattle.ln_csyn.specs.declared.tree.CType.{CType}
use Rattle.ln_csyn.specs.declared.tree.CType.TheVariants.{Int, Int64}
use Rattle.ln_csyn.specs.declared.tree.COp.{COp}
use Rattle.ln_csyn.specs.declared.tree.COp.TheVariants as op
use Rattle.ln_csyn.specs.Tree as c
use Rattle.ln_csyn.specs.Tree.{Expr, Body}
use Rattle.ln_csyn.specs.Meaning.{Counts, has, given, operated, is_same, is_zero, Scene, Seen, Gives, Outcome, Said, runs, value_of, find}
use Rattle.ln_csyn.specs.Meaning.{same_name, number_of_bool}
use Rattle.ln_cemit.specs.declared.slot.Slot.{Slot}
use Rattle.ln_cemit.specs.declared.slot.Way.{Way}
use Rattle.ln_cemit.specs.Emit.{type_of, constant, constant_wide, cut_expr, slot, operand, sign_expr, lowest, Rest, pushing, put_get}
use Rattle.ln_cemit.specs.Emit.{put_two, put_neg, put_cut, put_op, put_sign, emitted, naming, unread, ops_of, wide_at, wide_op, wide_lines}
use Rattle.ln_cemit.specs.Checked.{Sized, sized, checked, sign_of, sign_above, plus, Quiet, without, narrow, AreNames, EmittedMeans}
use Rattle.ln_cemit.proofs.Conditions.Names.{name_self, name_false}
use Rattle.ln_cemit.proofs.Meanings.Numbers.{within, room, wider_than, no_wider_self, moved}
use Rattle.ln_cemit.proofs.Meanings.Numbers.{same_type, plus_add, counted_is, given_is, cast_is}
use Rattle.ln_cemit.proofs.Writing.Constants.{two_is, inner_is, minus_is, constant_is}

-- a declaration as it is seen while its expression is evaluated, and afterwards
abbrev pub hidden : CType → List ℕ → Seen
hidden t x = record { name = x; kind = t; number = None }

-- a declaration with its value
abbrev pub shown : CType → List ℕ → ℤ → Seen
shown t x z = record { name = x; kind = t; number = Some z }

module _ (s : Scene) (ds : List Seen) where
  -- a declaration, and what is after it
  declared : (t : CType) (x : List ℕ) (e : Expr) (rest : Body) (z : ℤ) (k j : Counts) (o : Outcome) → is_same t t ≡ true
      → value_of s (hidden t x ∷ ds) e k ≡ Gives t z j → runs s (shown t x z ∷ ds) rest j ≡ o → runs s ds (c.Decl 2 t x e rest) k ≡ o
  declared t x e rest z k j o h v r = rw (v, h) r

-- ---- quotients by a power of 2

half : (n m : ℕ) → n < 2 ^ 63 → 2 ^ 63 ≤ m → n / m ≡ 0
half n m h l = let q = div_below n m 1 (omega arith) (omega arith) in omega arith

high : (m : ℕ) → 63 ≤ m → 2 ^ 63 ≤ 2 ^ m
high m h = elim (cases_lt 63 m) [
  | inl l ↦ (let q = pow_below 63 m l in omega arith)
  | inr l ↦ (let e : m ≡ 63 = omega (arith, l, h) in rw e (omega arith))
]

gone : (z : ℤ) (m : ℕ) → unsigned_abs z < 2 ^ 63 → 63 ≤ m → int_div z (pos (2 ^ m)) ≡ pos 0
gone (pos n) m h l = ap pos (half n (2 ^ m) h (high m l))
gone (negsuc n) m h l = ap (λ q. neg_ℤ (pos q)) (half (suc n) (2 ^ m) h (high m l))

not_zero : (n : ℕ) → 0 < n → is_zero (pos n) ≡ false
not_zero zero h = absurd (omega arith)
not_zero (suc n) h = refl

below_63 : {n : ℕ} → n ≤ limit W64 → n < 2 ^ 63
below_63 h = omega arith

cut_is : (s : Scene) (ds : List Seen) (i : ℕ) (e : Expr) (z : ℤ) (k : Counts) → value_of s ds e k ≡ Gives Int64 z k
    → unsigned_abs z ≤ limit W64 → unsigned_abs (cut_by i z) ≤ limit W64 → value_of s ds (cut_expr i e) k ≡ Gives Int64 (cut_by i z) k
cut_is s ds i e z k v h b = by_case (nat_lt i 63) refl where
  by_case : (u : Bool) → nat_lt i 63 ≡ u → value_of s ds (cut_expr i e) k ≡ Gives Int64 (cut_by i z) k
  by_case true t =
      let d : value_of s ds (c.Number Int64 (2 ^ i)) k ≡ Gives Int64 (pos (2 ^ i)) k =
      given_is Int64 (pos (2 ^ i)) k (lt-ltb (2 ^ i) (2 ^ 63) (pow_below i 63 (ltb-true i 63 t))) in
      let f = two_is s ds op.Div Int64 e (c.Number Int64 (2 ^ i)) z (pos (2 ^ i)) k k k v d refl in
      let nz = not_zero (2 ^ i) (pow_pos i) in
      rw t (f ∙ rw nz (cast_is W64 (int_div z (pos (2 ^ i))) k b))
  by_case false t = rw t (ap (λ y. Gives Int64 y k) (sym (gone z i (below_63 h) (ltb-false i 63 t))))

-- a value of the row
value_at : (s : Scene) (ds : List Seen) (v : ℕ) (w : Width) (z : ℤ) (k : Counts) → slice_get s.values v ≡ Some z → unsigned_abs z ≤ limit w
    → value_of s ds (c.Value (type_of w) v) k ≡ Gives (type_of w) z k
value_at s ds v w z k e h = rw e (cast_is w z k h)

-- ---- the machine's result

-- what was pushed is within its width, and is the new value
record IsSized (w : Width) (z : ℤ) (x : Sized) : Type 0 where
  small : unsigned_abs z ≤ limit w
  is : record { number = z; width = w } ≡ x

sized_says : (w : Width) (z : ℤ) (x : Sized) → sized w z ≡ Some x → IsSized w z x
sized_says w z x q = let r = when_some _ _ _ q in record { small = within w z r.0; is = r.1 }

-- the operation in C for one on two operands
abbrev pub op_of : Two → COp
op_of Plus = op.Add
op_of Minus = op.Sub
op_of Times = op.Mul

operated_is : (t : Two) (w : Width) (y z : ℤ) (k : Counts) → unsigned_abs (result_of t y z) ≤ limit w
    → operated (op_of t) (type_of w) y z k ≡ Gives (type_of w) (result_of t y z) (plus (wide_at w) k)
operated_is Plus w y z k h = rw (counted_is w k) (cast_is w (result_of Plus y z) (plus (wide_at w) k) h)
operated_is Minus w y z k h = rw (counted_is w k) (cast_is w (result_of Minus y z) (plus (wide_at w) k) h)
operated_is Times w y z k h = rw (counted_is w k) (cast_is w (result_of Times y z) (plus (wide_at w) k) h)

module _ (name : ℕ → List ℕ) (top : ℕ) (differ : AreNames name top) where
  -- a value of the machine is the number of a declaration, which is one of the first n
  record Holds (ds : List Seen) (n : ℕ) (s : Slot) (x : Sized) : Type 0 where
    below : s.at < n
    same : s.width ≡ x.width
    found : (k : Counts) → find ds (name s.at) k ≡ Gives (type_of s.width) x.number k
    small : unsigned_abs x.number ≤ limit s.width

  data Stack (ds : List Seen) (n : ℕ) : List Slot → List Sized → Type 0 where
    bottom : Stack ds n [] []
    on : {s : Slot} {x : Sized} {ss : List Slot} {xs : List Sized} → Holds ds n s x → Stack ds n ss xs → Stack ds n (s ∷ ss) (x ∷ xs)

  data Local (ds : List Seen) (n : ℕ) : Option Slot → Option Sized → Type 0 where
    unset : Local ds n None None
    held : {s : Slot} {x : Sized} → Holds ds n s x → Local ds n (Some s) (Some x)

  record Locals (ds : List Seen) (n : ℕ) (ss : ℕ → Option Slot) (xs : ℕ → Option Sized) : Type 0 where
    each : (j : ℕ) → Local ds n (ss j) (xs j)

  -- a further declaration hides none
  past : (ds : List Seen) (n i : ℕ) (d : Seen) (k : Counts) → n < top → d.name ≡ name n → i < n → find (d ∷ ds) (name i) k ≡ find ds (name i) k
  past ds n i d k lt e h =
      let f : same_name d.name (name i) ≡ false = name_false d.name (name i) (λ q. let r = differ n i lt (omega (arith, lt, h)) (sym e ∙ q) in omega arith) in
      rw f

  holds_on : {ds : List Seen} {n : ℕ} {s : Slot} {x : Sized} (d : Seen) → n < top → d.name ≡ name n → Holds ds n s x → Holds (d ∷ ds) (suc n) s x
  holds_on {ds} {n} {s} {x} d lt e h =
      record { below = omega (arith, h.below); same = h.same; found = λ k. past ds n s.at d k lt e h.below ∙ h.found k; small = h.small }

  stack_on : {ds : List Seen} {n : ℕ} {ss : List Slot} {xs : List Sized} (d : Seen) → n < top → d.name ≡ name n → Stack ds n ss xs
      → Stack (d ∷ ds) (suc n) ss xs
  stack_on d lt e bottom = bottom
  stack_on d lt e (on h r) = on (holds_on d lt e h) (stack_on d lt e r)

  local_on : {ds : List Seen} {n : ℕ} {s : Option Slot} {x : Option Sized} (d : Seen) → n < top → d.name ≡ name n → Local ds n s x → Local (d ∷ ds) (suc n) s x
  local_on d lt e unset = unset
  local_on d lt e (held h) = held (holds_on d lt e h)

  locals_on : {ds : List Seen} {n : ℕ} {ss : ℕ → Option Slot} {xs : ℕ → Option Sized} (d : Seen) → n < top → d.name ≡ name n
      → Locals ds n ss xs → Locals (d ∷ ds) (suc n) ss xs
  locals_on d lt e h = record { each = λ j. local_on d lt e (h.each j) }

  -- the new declaration holds its number
  newest : (ds : List Seen) (n : ℕ) (w : Width) (z : ℤ) → unsigned_abs z ≤ limit w
      → Holds (shown (type_of w) (name n) z ∷ ds) (suc n) (slot n w) (record { number = z; width = w })
  newest ds n w z h = record { below = omega arith; same = refl; found = λ k. rw (name_self (name n)); small = h }

  -- an operand has its number in the wider type, also while the next declaration has none
  operand_is : (s : Scene) {ds : List Seen} {n : ℕ} {q : Slot} {x : Sized} (w : Width) (t : CType) (k : Counts) → n < top → Holds ds n q x
      → no_wider x.width w ≡ true → value_of s (hidden t (name n) ∷ ds) (operand name w q) k ≡ Gives (type_of w) x.number k
  operand_is s {ds} {n} {q} {x} w t k lt h e =
      let f = past ds n q.at (hidden t (name n)) k lt refl h.below ∙ h.found k in
      let l : unsigned_abs x.number ≤ limit w = omega (arith, no_wider_limit q.width w (moved q.width x.width w h.same e), h.small) in
      rw f (cast_is w x.number k l)

  set_local : {ds : List Seen} {n : ℕ} (i : ℕ) {s : Slot} {x : Sized} {ss : ℕ → Option Slot} {xs : ℕ → Option Sized} → Holds ds n s x
      → Locals ds n ss xs → Locals ds n (with_local ss i s) (with_local xs i x)
  set_local {ds} {n} i {s} {x} {ss} {xs} h l = record { each = λ j. by_case j (j == i) } where
    by_case : (j : ℕ) (v : Bool) → Local ds n (if v then Some s else ss j) (if v then Some x else xs j)
    by_case j true = held h
    by_case j false = l.each j

  record Found (ds : List Seen) (n : ℕ) (o : Option Slot) (x : Sized) : Type 0 where
    place : Slot
    is : o ≡ Some place
    holds : Holds ds n place x

  local_get : {ds : List Seen} {n : ℕ} {a : Option Slot} {b : Option Sized} {x : Sized} → Local ds n a b → b ≡ Some x → Found ds n a x
  local_get unset e = absurd (cc)
  local_get {ds} {n} {x = x} (held {s = q} {x = y} h) e =
      let f : y ≡ x = cc in
      record { place = q; is = refl; holds = subst (λ (z : Sized). Holds ds n q z) f h }

  -- what comes after a step: for each declaration of this name, and each stack and locals that hold the machine's
  abbrev Goes : Scene → List Seen → ℕ → State Sized (ℕ → Option Sized) → Rest → Counts → Outcome → Type 0
  Goes s ds n t go k o = (d : Seen) (ss : List Slot) (ls : ℕ → Option Slot) → Stack (d ∷ ds) (suc n) ss t.stack
      → Locals (d ∷ ds) (suc n) ls t.locals → runs s (d ∷ ds) (go ss ls) k ≡ o

  -- what is within the limit of a width of at most 64 bits is within that of 64 bits
  narrow_64 : (u : Width) (z : ℤ) → no_wider u W64 ≡ true → unsigned_abs z ≤ limit u → unsigned_abs z ≤ limit W64
  narrow_64 W64 z e h = h
  narrow_64 W128 z e h = cc

  -- ---- one operation, from the locals lx to the state t, before what comes after it and results in o
  module _ (s : Scene) (ds : List Seen) (n : ℕ) (ls : ℕ → Option Slot) (lx : ℕ → Option Sized) (t : State Sized (ℕ → Option Sized)) (go : Rest)
      (k : Counts) (o : Outcome) (l : Locals ds n ls lx) (lt : n < top) where
    module _ (ss : List Slot) (xs : List Sized) (st : Stack ds n ss xs) where
      -- a value that is pushed
      push_is : (w : Width) (e : Expr) (z : ℤ) (x : Sized) (j : Counts) → sized w z ≡ Some x
          → (unsigned_abs z ≤ limit w → value_of s (hidden (type_of w) (name n) ∷ ds) e k ≡ Gives (type_of w) z j)
          → pushed (checked s.values) lx xs x ≡ Some t → Goes s ds n t go j o → runs s ds (pushing name n w e ss ls go) k ≡ o
      push_is w e z x j q v p g =
          let r = sized_says w z x q in
          let d : Seen = shown (type_of w) (name n) z in
          let a : record { stack = x ∷ xs; locals = lx } ≡ t = cc in
          let h : Holds (d ∷ ds) (suc n) (slot n w) x = subst (λ (y : Sized). Holds (d ∷ ds) (suc n) (slot n w) y) r.is (newest ds n w z r.small) in
          let g' = subst (λ (u : State Sized (ℕ → Option Sized)). Goes s ds n u go j o) (sym a) g in
          declared s ds (type_of w) (name n) e (go (slot n w ∷ ss) ls) z k j o (same_type w) (v r.small)
          (g' d (slot n w ∷ ss) ls (on h (stack_on d lt refl st)) (locals_on d lt refl l))

      -- a local that is read
      get_is : (a : Way) (j : ℕ) → step (checked s.values) (Get j) a lx xs ≡ Some t → Goes s ds n t go k o
          → runs s ds (put_get name a n (ls j) ss ls go) k ≡ o
      get_is a j q g =
          let r = next_some (next (lx j) (λ x. sized (wider x.width a.width) x.number)) (pushed (checked s.values) lx xs) t q in
          let p = next_some (lx j) (λ (x : Sized). sized (wider x.width a.width) x.number) r.0 r.1 in
          let f = local_get (l.each j) p.1 in
          let w : Width = wider f.place.width a.width in
          let e : wider p.0.width a.width ≡ w = ap (λ (u : Width). wider u a.width) (sym f.holds.same) in
          let m : sized w p.0.number ≡ Some r.0 = subst (λ (u : Width). sized u p.0.number ≡ Some r.0) e p.2 in
          let nw : no_wider p.0.width w ≡ true = subst (λ (u : Width). no_wider p.0.width u ≡ true) e (wider_than p.0.width a.width) in
          rw f.is (push_is w (operand name w f.place) p.0.number r.0 k m (λ h. operand_is s w (type_of w) k lt f.holds nw) r.2 g)

    -- a local that is set
    set_is : (a : Way) (j : ℕ) {ss : List Slot} {xs : List Sized} → step (checked s.values) (Set j) a lx xs ≡ Some t → Stack ds n ss xs
        → Goes s ds n t go k o → runs s ds (put_op name (Set j) a n ss ls go) k ≡ o
    set_is a j q bottom g = cc
    set_is a j q (on {s = p} {x = x} {ss = ss} {xs = xs} h st) g =
        let w : Width = p.width in
        let d : Seen = shown (type_of w) (name n) x.number in
        let e : record { stack = xs; locals = with_local lx j x } ≡ t = cc in
        let v = operand_is s w (type_of w) k lt h (subst (λ (u : Width). no_wider u w ≡ true) h.same (no_wider_self w)) in
        let y : Holds (d ∷ ds) (suc n) (slot n w) (record { number = x.number; width = w }) = newest ds n w x.number h.small in
        let z : Holds (d ∷ ds) (suc n) (slot n w) x = record { below = y.below; same = h.same; found = y.found; small = y.small } in
        let g' = subst (λ (u : State Sized (ℕ → Option Sized)). Goes s ds n u go k o) (sym e) g in
        declared s ds (type_of w) (name n) (operand name w p) (go ss (with_local ls j (slot n w))) x.number k k o (same_type w) v
        (g' d ss (with_local ls j (slot n w)) (stack_on d lt refl st) (set_local j z (locals_on d lt refl l)))

    -- a sum, a difference or a product
    two_step : (kind : Two) (w : Width) (a : Way) {ss : List Slot} {xs : List Sized}
        → with_two (checked s.values) ((checked s.values).two kind w a) lx xs ≡ Some t → Stack ds n ss xs
        → Goes s ds n t go (plus (wide_at w) k) o → runs s ds (put_two name (op_of kind) w n ss ls go) k ≡ o
    two_step kind w a q bottom g = cc
    two_step kind w a q (on h bottom) g = cc
    two_step kind w a q (on {s = p} {x = y} h (on {s = r} {x = x} {ss = ss} {xs = xs} f st)) g =
        let u = next_some (if no_wider x.width w && no_wider y.width w then sized w (result_of kind x.number y.number) else None)
        (pushed (checked s.values) lx xs) t q in
        let i = if_some _ _ _ u.1 in
        let b = and_parts _ _ i.0 in
        let ds' : List Seen = hidden (type_of w) (name n) ∷ ds in
        let v : unsigned_abs (result_of kind x.number y.number) ≤ limit w
        → value_of s ds' (c.Two (op_of kind) (operand name w r) (operand name w p)) k
        ≡ Gives (type_of w) (result_of kind x.number y.number) (plus (wide_at w) k)
        = λ m. two_is s ds' (op_of kind) (type_of w) (operand name w r) (operand name w p) x.number y.number k k k
        (operand_is s w (type_of w) k lt f b.0) (operand_is s w (type_of w) k lt h b.1) (same_type w) ∙ operated_is kind w x.number y.number k m in
        push_is ss xs st w (c.Two (op_of kind) (operand name w r) (operand name w p)) (result_of kind x.number y.number) u.0 (plus (wide_at w) k) i.1 v u.2 g

    -- a negation
    neg_step : (w : Width) (a : Way) {ss : List Slot} {xs : List Sized} → step (checked s.values) (Neg w) a lx xs ≡ Some t → Stack ds n ss xs
        → Goes s ds n t go (plus (wide_at w) k) o → runs s ds (put_neg name w n ss ls go) k ≡ o
    neg_step w a q bottom g = cc
    neg_step w a q (on {s = p} {x = x} {ss = ss} {xs = xs} h st) g =
        let u = next_some (if no_wider x.width w then sized w (neg_ℤ x.number) else None) (pushed (checked s.values) lx xs) t q in
        let i = if_some _ _ _ u.1 in
        let ds' : List Seen = hidden (type_of w) (name n) ∷ ds in
        let v : unsigned_abs (neg_ℤ x.number) ≤ limit w
        → value_of s ds' (c.Minus (operand name w p)) k ≡ Gives (type_of w) (neg_ℤ x.number) (plus (wide_at w) k)
        = λ m. minus_is s ds' (type_of w) (operand name w p) x.number k k (operand_is s w (type_of w) k lt h i.0) (room w (neg_ℤ x.number) m)
        ∙ ap (λ j. Gives (type_of w) (neg_ℤ x.number) j) (counted_is w k) in
        push_is ss xs st w (c.Minus (operand name w p)) (neg_ℤ x.number) u.0 (plus (wide_at w) k) i.1 v u.2 g

    -- low bits that are cut off
    cut_step : (m : ℕ) (a : Way) {ss : List Slot} {xs : List Sized} → step (checked s.values) (Cut m) a lx xs ≡ Some t → Stack ds n ss xs
        → Goes s ds n t go k o → runs s ds (put_cut name m n ss ls go) k ≡ o
    cut_step m a q bottom g = cc
    cut_step m a q (on {s = p} {x = x} {ss = ss} {xs = xs} h st) g =
        let u = next_some (if no_wider x.width W64 then sized W64 (cut_by m x.number) else None) (pushed (checked s.values) lx xs) t q in
        let i = if_some _ _ _ u.1 in
        let ds' : List Seen = hidden Int64 (name n) ∷ ds in
        let b : unsigned_abs x.number ≤ limit W64 = narrow_64 p.width x.number (moved p.width x.width W64 h.same i.0) h.small in
        push_is ss xs st W64 (cut_expr m (operand name W64 p)) (cut_by m x.number) u.0 k i.1
        (λ r. cut_is s ds' m (operand name W64 p) x.number k (operand_is s W64 Int64 k lt h i.0) b r) u.2 g

    -- one operation
    step_is : (oper : Op) (a : Way) (ss : List Slot) (xs : List Sized) → step (checked s.values) oper a lx xs ≡ Some t → Stack ds n ss xs
        → Goes s ds n t go (plus (wide_op oper a) k) o → runs s ds (put_op name oper a n ss ls go) k ≡ o
    step_is (Push z) a ss xs q st g =
        let y : ℤ = cut_by a.shift z in
        let u = next_some (sized a.width y) (pushed (checked s.values) lx xs) t q in
        push_is ss xs st a.width (c.Inner (type_of a.width) (constant y)) y u.0 (plus (constant_wide y) k) u.1
        (λ h. constant_is s (hidden (type_of a.width) (name n) ∷ ds) a.width y k h) u.2 g
    step_is (Input v) a ss xs q st g =
        let u = next_some (next (slice_get s.values v) (λ z. sized a.width z)) (pushed (checked s.values) lx xs) t q in
        let p = next_some (slice_get s.values v) (λ (z : ℤ). sized a.width z) u.0 u.1 in
        push_is ss xs st a.width (c.Value (type_of a.width) v) p.0 u.0 k p.2
        (λ h. value_at s (hidden (type_of a.width) (name n) ∷ ds) v a.width p.0 k p.1 h) u.2 g
    step_is (Get j) a ss xs q st g = get_is ss xs st a j q g
    step_is (Set j) a ss xs q st g = set_is a j q st g
    step_is (Add w) a ss xs q st g = two_step Plus w a q st g
    step_is (Sub w) a ss xs q st g = two_step Minus w a q st g
    step_is (Mul w) a ss xs q st g = two_step Times w a q st g
    step_is (Neg w) a ss xs q st g = neg_step w a q st g
    step_is (Cut m) a ss xs q st g = cut_step m a q st g

  -- ---- the sign

  zero_is : (s : Scene) (ds : List Seen) (w : Width) (k : Counts) → value_of s ds (c.Number (type_of w) 0) k ≡ Gives (type_of w) (pos 0) k
  zero_is s ds W64 k = refl
  zero_is s ds W128 k = refl

  has_bool : (b : Bool) → has Int (number_of_bool b) ≡ true
  has_bool true = refl
  has_bool false = refl

  has_above : (e : ℕ) (x : ℤ) → has Int (sign_above e x) ≡ true
  has_above e x = by_case (nat_lt e (unsigned_abs x)) x where
    by_case : (b : Bool) (x : ℤ) → has Int (if b then sign_of x else pos 0) ≡ true
    by_case true (pos zero) = refl
    by_case true (pos (suc n)) = refl
    by_case true (negsuc n) = refl
    by_case false x = refl

  -- the two tests
  sign_number : (e : ℕ) (x : ℤ) → number_of_bool (int_lt (pos e) x) -ℤ number_of_bool (int_lt x (neg_ℤ (pos e))) ≡ sign_above e x
  sign_number e (pos zero) = by_case e where
    by_case : (e : ℕ) → number_of_bool (int_lt (pos e) (pos 0)) -ℤ number_of_bool (int_lt (pos 0) (neg_ℤ (pos e))) ≡ sign_above e (pos 0)
    by_case zero = refl
    by_case (suc e) = rw (le-ltb (suc e) 0 (omega arith)) refl
  sign_number zero (pos (suc n)) = rw (lt-ltb 0 (suc n) (omega arith), le-ltb (suc n) 0 (omega arith)) refl
  sign_number (suc e) (pos (suc n)) = by_case (nat_lt (suc e) (suc n)) where
    by_case : (b : Bool) → number_of_bool b -ℤ pos 0 ≡ (if b then pos 1 else pos 0)
    by_case true = refl
    by_case false = refl
  sign_number zero (negsuc n) = rw (lt-ltb 0 (suc n) (omega arith)) refl
  sign_number (suc e) (negsuc n) = by_case (nat_lt (suc e) (suc n)) refl where
    by_case : (b : Bool) → nat_lt (suc e) (suc n) ≡ b → number_of_bool (int_lt (pos (suc e)) (negsuc n)) -ℤ number_of_bool (int_lt (negsuc n) (negsuc e))
        ≡ (if nat_lt (suc e) (suc n) then negsuc 0 else pos 0)
    by_case true h = rw (h, lt-ltb e n (omega (arith, ltb-true (suc e) (suc n) h))) refl
    by_case false h = rw (h, le-ltb e n (omega (arith, ltb-false (suc e) (suc n) h))) refl

  -- the two ends of what decides nothing
  record Ends (s : Scene) (ds : List Seen) (e : ℕ) (w : Width) (k : Counts) : Type 0 where
    high_end : value_of s ds (c.Number (type_of w) e) k ≡ Gives (type_of w) (pos e) k
    low : value_of s ds (lowest (type_of w) e) k ≡ Gives (type_of w) (neg_ℤ (pos e)) k

  ends : (s : Scene) (ds : List Seen) (e : ℕ) (w : Width) (k : Counts) → Quiet e w → Ends s ds e w k
  ends s ds e w k without = record { high_end = zero_is s ds w k; low = zero_is s ds w k }
  ends s ds zero w k (narrow h) = record { high_end = zero_is s ds w k; low = zero_is s ds w k }
  ends s ds (suc e) w k (narrow h) =
      let b : suc e ≤ limit W64 = within W64 (pos (suc e)) h in
      let v : value_of s ds (c.Number Int64 (suc e)) k ≡ Gives Int64 (pos (suc e)) k = cast_is W64 (pos (suc e)) k b in
      record { high_end = v; low = minus_is s ds Int64 (c.Number Int64 (suc e)) (pos (suc e)) k k v (room W64 (negsuc e) b) }

  sign_is : (s : Scene) (ds : List Seen) (e i : ℕ) (w : Width) (x : ℤ) (k : Counts) → Quiet e w → ((j : Counts) → find ds (name i) j ≡ Gives (type_of w) x j)
      → unsigned_abs x ≤ limit w → value_of s ds (sign_expr name e (slot i w)) k ≡ Gives Int (sign_above e x) k
  sign_is s ds e i w x k qu f h =
      let v : value_of s ds (c.Name (type_of w) (name i)) k ≡ Gives (type_of w) x k = rw (f k) (cast_is w x k h) in
      let z = ends s ds e w k qu in
      let y : Expr = c.Name (type_of w) (name i) in
      let a : ℤ = number_of_bool (int_lt (pos e) x) in
      let b : ℤ = number_of_bool (int_lt x (neg_ℤ (pos e))) in
      let more = two_is s ds op.More (type_of w) y (c.Number (type_of w) e) x (pos e) k k k v z.high_end (same_type w) in
      let less = two_is s ds op.Less (type_of w) y (lowest (type_of w) e) x (neg_ℤ (pos e)) k k k v z.low (same_type w) in
      let more' = inner_is s ds Int Int (c.Two op.More y (c.Number (type_of w) e)) a k k more (has_bool (int_lt (pos e) x)) in
      let less' = inner_is s ds Int Int (c.Two op.Less y (lowest (type_of w) e)) b k k less (has_bool (int_lt x (neg_ℤ (pos e)))) in
      two_is s ds op.Sub Int (c.Inner Int (c.Two op.More y (c.Number (type_of w) e)))
      (c.Inner Int (c.Two op.Less y (lowest (type_of w) e))) a b k k k more' less' refl
      ∙ ap (λ y. given Int y k) (sign_number e x)
      ∙ given_is Int (sign_above e x) k (has_above e x)

  -- the remaining value
  left_is : (s : Scene) (ds : List Seen) (n e : ℕ) {ss : List Slot} {xs : List Sized} (x : Sized) (k : Counts) → Quiet e x.width
      → only xs ≡ Some x → Stack ds n ss xs → runs s ds (put_sign name e ss) k ≡ Said (sign_above e x.number) k
  left_is s ds n e x k qu q bottom = cc
  left_is s ds n e x k qu q (on {s = p} {x = y} h bottom) =
      let r : y ≡ x = cc in
      let h' : Holds ds n p x = subst (λ (z : Sized). Holds ds n p z) r h in
      let qu' : Quiet e p.width = subst (λ (w : Width). Quiet e w) (sym h'.same) qu in
      rw (sign_is s ds e p.at p.width x.number k qu' h'.found h'.small) refl
  left_is s ds n e x k qu q (on h (on f st)) = cc

  -- what is never reached does nothing
  named_runs : (s : Scene) (ds : List Seen) (u : Option ℕ) (b : Body) (k : Counts) → runs s ds (naming name u b) k ≡ runs s ds b k
  named_runs s ds None b k = refl
  named_runs s ds (Some i) b k = refl

  module _ (s : Scene) (e : ℕ) (t : State Sized (ℕ → Option Sized)) (x : Sized) (qu : Quiet e x.width) (p : only t.stack ≡ Some x) where
    -- where the remaining lines end in the state t, what is emitted for them returns the sign of its only value x
    main : (lines : List (Line Way)) (ds : List Seen) (n : ℕ) (ss : List Slot) (ls : ℕ → Option Slot) (xs : List Sized) (lx : ℕ → Option Sized)
        (k : Counts) → run (checked s.values) lines (record { stack = xs; locals = lx }) ≡ Some t → Stack ds n ss xs → Locals ds n ls lx
        → n + length lines ≤ top → runs s ds (emitted name e lines n ss ls) k ≡ Said (sign_above e x.number) (plus (wide_lines lines) k)
    main [] ds n ss ls xs lx k q st l m =
        let r : record { stack = xs; locals = lx } ≡ t = cc in
        left_is s ds n e x k qu (subst (λ (u : State Sized (ℕ → Option Sized)). only u.stack ≡ Some x) (sym r) p) st
    main (line ∷ lines) ds n ss ls xs lx k q st l m =
        let r = next_some (step (checked s.values) line.op line.bound lx xs) (λ u. run (checked s.values) lines u) t q in
        step_is s ds n ls lx r.0 (λ su ms. naming name (unread line.op (ops_of lines) n ss) (emitted name e lines (suc n) su ms)) k _ l (omega (arith, m))
        line.op line.bound ss xs r.1 st
        (λ d su ms st' l'. named_runs s (d ∷ ds) (unread line.op (ops_of lines) n ss) (emitted name e lines (suc n) su ms) _
        ∙ main lines (d ∷ ds) (suc n) su ms r.0.stack r.0.locals (plus (wide_op line.op line.bound) k) r.2 st' l' (omega (arith, m))
        ∙ ap (λ j. Said (sign_above e x.number) j) (sym (plus_add (wide_op line.op line.bound) (wide_lines lines) k)))

-- where the machine as C has it has a result, the emitted body returns its sign, and no line fails
pub emitted_means : EmittedMeans
emitted_means name e s lines x k differ qu q =
    let r = next_some (run (checked s.values) lines (record { stack = []; locals = no_locals })) (λ u. only u.stack) x q in
    main name (length lines) differ s e r.0 x qu r.2 lines [] 0 [] no_locals [] no_locals k r.1 bottom (record { each = λ j. unset }) (omega arith)
