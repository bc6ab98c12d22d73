-- What an operation finds on the stack of the processor, and what it leaves there.
use Rattle.std.proofs.Common.{◌≡◌, ℕ, ℤ, ◌-◌, ◌≤◌, ◌<◌, Bool, true, false, List, [], ◌∷◌, length, refl, zero, suc, ap, arith, pos, ◌∙◌, sym}
use Rattle.std.specs.Prelude.{slice_index_or, slice_get, Option, Some, None, is_some, IsSome, ◌==◌, if◌then◌else◌}
use Rattle.std.proofs.lemmas.Bool.{leb-true, le-leb, and_parts}
use Rattle.ln_bound.specs.declared.fitted.Width.{Width}
use Rattle.ln_bound.specs.declared.fitted.Two.{Two}
use Rattle.ln_bound.specs.declared.fitted.Two.TheVariants.{Plus, Minus, Times}
use Rattle.ln_code.specs.declared.op.Op.{Op}
use Rattle.ln_code.specs.declared.op.Op.TheVariants.{Push, Input, Get, Set, Cut}
use Rattle.ln_code.specs.Engine.{op_of, when, next, pushed, with_one, with_two, stored}
use Rattle.ln_code.specs.Numbers.{fits, result_of, cut_by}
use Rattle.ln_code.specs.Bare.{bare}
use Rattle.ln_code.specs.Memory.{seen, at, TwoReady, leads}
use Rattle.ln_code.proofs.Engines.Cells.{seen-length}

-- where what goes on with a value has a result, the value is there
pub next_is_some : {A B : Type 0} (o : Option A) (f : A → Option B) → is_some (next o f) ≡ true → is_some o ≡ true
next_is_some None f h = cc
next_is_some (Some a) f h = refl

when_is_some : {A : Type 0} (b : Bool) (a : A) → is_some (when b a) ≡ true → b ≡ true
when_is_some true a h = refl
when_is_some false a h = cc

-- where a value is pushed there is room
pushed_room : (zs : List ℤ) (d : ℕ) (l : ℕ → ℤ) (o : Option ℤ) (buf : List ℤ) (k : ℕ) → is_some (next o (pushed (bare zs d) l (seen buf k))) ≡ true → k < d
pushed_room zs d l None buf k h = cc
pushed_room zs d l (Some z) buf k h =
    let r : suc k ≤ d = rw seen-length at (leb-true _ _ (when_is_some _ _ h)) in
    omega arith

-- the result of pushing a value
pub pushed_is : (zs : List ℤ) (d : ℕ) (l : ℕ → ℤ) (z : ℤ) (buf : List ℤ) (k : ℕ) → k < d
    → pushed (bare zs d) l (seen buf k) z ≡ Some (record { stack = z ∷ seen buf k; locals = l })
pushed_is zs d l z buf k h = rw (seen-length buf k, le-leb (suc k) d h) refl

-- ---- operations on two

two_ready : (zs : List ℤ) (l : ℕ → ℤ) (t : Two) (w : Width) (k : ℕ) (buf : List ℤ) (top : ℕ) → top ≤ length buf →
    is_some (with_two (bare zs (length buf)) ((bare zs (length buf)).two t w k) l (seen buf top)) ≡ true → TwoReady t w buf top
two_ready zs l t w b buf zero r h = cc
two_ready zs l t w b buf (suc zero) r h = cc
two_ready zs l t w b buf (suc (suc k)) r h =
    let e : suc (suc k) - 2 ≡ k = omega arith in
    let f : suc (suc k) - 1 ≡ suc k = omega arith in
    let d : 2 ≤ suc (suc k) = omega arith in
    let p = and_parts _ _ (when_is_some _ _ (next_is_some _ _ h)) in
    let q = and_parts _ _ p.1 in
    record { deep = d; room = r; left = rw e p.0; right = rw f q.0; result = rw (e, f) q.1 }

two_is : (zs : List ℤ) (l : ℕ → ℤ) (t : Two) (w : Width) (k : ℕ) (buf : List ℤ) (top : ℕ) → TwoReady t w buf top →
    with_two (bare zs (length buf)) ((bare zs (length buf)).two t w k) l (seen buf top)
    ≡ Some (record { stack = result_of t (at buf (top - 2)) (at buf (top - 1)) ∷ seen buf (top - 2); locals = l })
two_is zs l t w b buf zero r = absurd (let d = r.deep in omega arith)
two_is zs l t w b buf (suc zero) r = absurd (let d = r.deep in omega arith)
two_is zs l t w b buf (suc (suc k)) r =
    let e : suc (suc k) - 2 ≡ k = omega arith in
    let f : suc (suc k) - 1 ≡ suc k = omega arith in
    let a : fits w (at buf k) ≡ true = rw e at r.left in
    let c : fits w (at buf (suc k)) ≡ true = rw f at r.right in
    let g : fits w (result_of t (at buf k) (at buf (suc k))) ≡ true = rw (e, f) at r.result in
    let d : k < length buf = let m = r.room in omega arith in
    rw (e, f, a, c, g) (pushed_is zs (length buf) l (result_of t (at buf k) (at buf (suc k))) buf k d)

-- ---- operations on one

-- a value is there and meets a test
pub record OneReady (test : ℤ → Bool) (buf : List ℤ) (top : ℕ) : Type 0 where
  pub deep : 0 < top
  pub fits : test (at buf (top - 1)) ≡ true

one_ready : (zs : List ℤ) (l : ℕ → ℤ) (test : ℤ → Bool) (f : ℤ → ℤ) (buf : List ℤ) (top : ℕ) →
    is_some (with_one (bare zs (length buf)) (λ z. when (test z) (f z)) l (seen buf top)) ≡ true → OneReady test buf top
one_ready zs l test f buf zero h = cc
one_ready zs l test f buf (suc k) h =
    let e : suc k - 1 ≡ k = omega arith in
    record { deep = omega arith; fits = rw e (when_is_some _ _ (next_is_some _ _ h)) }

one_is : (zs : List ℤ) (l : ℕ → ℤ) (test : ℤ → Bool) (f : ℤ → ℤ) (buf : List ℤ) (top : ℕ) → top ≤ length buf → OneReady test buf top →
    with_one (bare zs (length buf)) (λ z. when (test z) (f z)) l (seen buf top)
    ≡ Some (record { stack = f (at buf (top - 1)) ∷ seen buf (top - 1); locals = l })
one_is zs l test f buf zero r p = absurd (let d = p.deep in omega arith)
one_is zs l test f buf (suc k) r p =
    let e : suc k - 1 ≡ k = omega arith in
    let a : test (at buf k) ≡ true = rw e at p.fits in
    let d : k < length buf = omega arith in
    rw (e, a) (pushed_is zs (length buf) l (f (at buf k)) buf k d)

-- ---- locals

set_ready : (zs : List ℤ) (l : ℕ → ℤ) (j : ℕ) (buf : List ℤ) (top : ℕ) → is_some (stored (bare zs (length buf)) j l (seen buf top)) ≡ true → 0 < top
set_ready zs l j buf zero h = cc
set_ready zs l j buf (suc k) h = omega arith

set_is : (zs : List ℤ) (l m : ℕ → ℤ) (j : ℕ) (buf : List ℤ) (top : ℕ) → 0 < top → m ≡ (λ k. if k == j then at buf (top - 1) else l k) →
    stored (bare zs (length buf)) j l (seen buf top) ≡ Some (record { stack = seen buf (top - 1); locals = m })
set_is zs l m j buf zero h q = absurd (omega arith)
set_is zs l m j buf (suc k) h q =
    let e : suc k - 1 ≡ k = omega arith in
    let r : m ≡ (λ i. if i == j then at buf k else l i) = rw e at q in
    rw (e, r) refl

-- ---- where each operation leads

-- an operation that pushes a number finds room on the stack
pub leads_push : (values buf locals : List ℤ) (top : ℕ) (op : Op) (k : ℕ) (c : ℤ) → op ≡ Push c → IsSome (leads op k values buf top locals) → top < length buf
leads_push values buf locals top op k c e h =
    let g : is_some (next (Some (cut_by k c)) (pushed (bare values (length buf)) (at locals) (seen buf top))) ≡ true = rw e at h in
    pushed_room values (length buf) (at locals) (Some (cut_by k c)) buf top g

got_there : (zs : List ℤ) (v : ℕ) → is_some (slice_get zs v) ≡ true → v < length zs
got_there [] v h = cc
got_there (z ∷ zs) zero h = omega arith
got_there (z ∷ zs) (suc v) h = let r : v < length zs = got_there zs v h in omega arith

got_is : (zs : List ℤ) (v : ℕ) (d : ℤ) → v < length zs → slice_get zs v ≡ Some (slice_index_or zs v d)
got_is [] v d h = absurd (omega arith)
got_is (z ∷ zs) zero d h = refl
got_is (z ∷ zs) (suc v) d h = got_is zs v d (omega arith)

-- the variable is there, and there is room
pub record InputReady (v : ℕ) (values buf : List ℤ) (top : ℕ) : Type 0 where
  pub there : v < length values
  pub room : top < length buf

-- an operation that pushes a variable finds the variable, and room on the stack
pub leads_input : (values buf locals : List ℤ) (top : ℕ) (op : Op) (k v : ℕ) → op ≡ Input v → IsSome (leads op k values buf top locals)
    → InputReady v values buf top
leads_input values buf locals top op k v e h =
    let g : is_some (next (slice_get values v) (pushed (bare values (length buf)) (at locals) (seen buf top))) ≡ true = rw e at h in
    record { there = got_there values v (next_is_some _ _ g); room = pushed_room values (length buf) (at locals) (slice_get values v) buf top g }

-- and leaves the variable's value on top
pub input_leads : (values buf locals : List ℤ) (top : ℕ) (op : Op) (k v : ℕ) (z : ℤ) (s : List ℤ) → op ≡ Input v →
    IsSome (leads op k values buf top locals) → z ≡ slice_index_or values v (pos 0) → s ≡ z ∷ seen buf top →
    leads op k values buf top locals ≡ Some (record { stack = s; locals = at locals })
input_leads values buf locals top op k v z s e h f q =
    let r = leads_input values buf locals top op k v e h in
    let g : slice_get values v ≡ Some z = got_is values v (pos 0) r.there ∙ ap Some (sym f) in
    rw (e, q, g) (pushed_is values (length buf) (at locals) z buf top r.room)

-- an operation that pushes a local finds room on the stack
pub leads_get : (values buf locals : List ℤ) (top : ℕ) (op : Op) (k j : ℕ) → op ≡ Get j → IsSome (leads op k values buf top locals) → top < length buf
leads_get values buf locals top op k j e h =
    let g : is_some (next (Some (at locals j)) (pushed (bare values (length buf)) (at locals) (seen buf top))) ≡ true = rw e at h in
    pushed_room values (length buf) (at locals) (Some (at locals j)) buf top g

leads_with : (values buf locals : List ℤ) (top : ℕ) (t : Two) (w : Width) (k : ℕ)
    → leads (op_of t w) k values buf top locals ≡ with_two (bare values (length buf)) ((bare values (length buf)).two t w k) (at locals) (seen buf top)
leads_with values buf locals top Plus w k = refl
leads_with values buf locals top Minus w k = refl
leads_with values buf locals top Times w k = refl

-- a sum, difference or product finds two operands, which fit its width as their result does
pub leads_two : (values buf locals : List ℤ) (top : ℕ) (op : Op) (k : ℕ) (t : Two) (w : Width) → op ≡ op_of t w → top ≤ length buf
    → IsSome (leads op k values buf top locals) → TwoReady t w buf top
leads_two values buf locals top op k t w e r h =
    let a : IsSome (leads (op_of t w) k values buf top locals) = rw e at h in
    let g = rw (leads_with values buf locals top t w k) at a in
    two_ready values (at locals) t w k buf top r g

-- and leaves the result in their place
pub two_leads : (values buf locals : List ℤ) (top : ℕ) (op : Op) (k : ℕ) (t : Two) (w : Width) (s : List ℤ) → op ≡ op_of t w →
    top ≤ length buf → IsSome (leads op k values buf top locals) →
    s ≡ result_of t (at buf (top - 2)) (at buf (top - 1)) ∷ seen buf (top - 2) →
    leads op k values buf top locals ≡ Some (record { stack = s; locals = at locals })
two_leads values buf locals top op k t w s e r h q =
    let g = leads_two values buf locals top op k t w e r h in
    rw (e, leads_with values buf locals top t w k, q) (two_is values (at locals) t w k buf top g)

-- any value may be divided
abbrev pub any : ℤ → Bool
any z = true

-- a division by 2^n finds a value
pub leads_cut : (values buf locals : List ℤ) (top : ℕ) (op : Op) (k n : ℕ) → op ≡ Cut n → IsSome (leads op k values buf top locals) → OneReady any buf top
leads_cut values buf locals top op k n e h =
    let g : IsSome (leads (Cut n) k values buf top locals) = rw e at h in
    one_ready values (at locals) any (cut_by n) buf top g

-- and leaves the quotient in its place
pub cut_leads : (values buf locals : List ℤ) (top : ℕ) (op : Op) (k n : ℕ) (s : List ℤ) → op ≡ Cut n → top ≤ length buf →
    IsSome (leads op k values buf top locals) → s ≡ cut_by n (at buf (top - 1)) ∷ seen buf (top - 1) →
    leads op k values buf top locals ≡ Some (record { stack = s; locals = at locals })
cut_leads values buf locals top op k n s e r h q =
    let g = leads_cut values buf locals top op k n e h in
    rw (e, q) (one_is values (at locals) any (cut_by n) buf top r g)

-- an operation that stores into a local finds a value
pub leads_set : (values buf locals : List ℤ) (top : ℕ) (op : Op) (k j : ℕ) → op ≡ Set j → IsSome (leads op k values buf top locals) → 0 < top
leads_set values buf locals top op k j e h =
    let g : IsSome (leads (Set j) k values buf top locals) = rw e at h in
    set_ready values (at locals) j buf top g

-- and takes it off the stack, into the local
pub set_leads : (values buf locals : List ℤ) (top : ℕ) (op : Op) (k j : ℕ) (m : ℕ → ℤ) → op ≡ Set j →
    IsSome (leads op k values buf top locals) → m ≡ (λ i. if i == j then at buf (top - 1) else at locals i) →
    leads op k values buf top locals ≡ Some (record { stack = seen buf (top - 1); locals = m })
set_leads values buf locals top op k j m e h q =
    let d = leads_set values buf locals top op k j e h in
    rw e (set_is values (at locals) m j buf top d q)
