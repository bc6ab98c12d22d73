-- Code of trees that may be written leads to values that stand for them.
use Rattle.std.proofs.Common.{◌≡◌, ◌≢◌, ℕ, ℤ, pos, ◌+◌, ◌≤◌, Bool, false, List, [], ◌∷◌, ◌++◌, length, refl, zero, suc, arith, sym, subst}
use Rattle.std.proofs.Common.{length-append, append-nil, append_assoc}
use Rattle.std.specs.Prelude.{Some, slice_get}
use Rattle.ln_interval.specs.Range.{Range}
use Rattle.ln_bound.specs.declared.fitted.Width.{Width}
use Rattle.ln_bound.specs.declared.fitted.Two.{Two}
use Rattle.ln_bound.specs.Typed.{Typed, TNum, TInput, TLet, TNeg, TTwo, TPow, need, pair, untyped, width}
use Rattle.ln_bound.specs.declared.fitted.Two.TheVariants.{Plus, Minus, Times}
use Rattle.ln_code.specs.declared.op.Op.TheVariants.{Get, Input, Mul, Neg, Push, Set}
use Rattle.ln_code.specs.Engine.{Line, State, next, op_of, pushed, step}
use Rattle.ln_code.specs.Numbers.{no_locals, with_local}
use Rattle.ln_code.specs.StackCode.{AreCode, IsCode, IsCodeIn, Style, after_left, division, factors, keeping, after_right, line, power_of, raised_to}
use Rattle.ln_code.specs.StackCode.{with_division, again, keep, name, number, opposite, raised, two, variable, zeroth, more, none}
use Rattle.ln_code.specs.Kept.{stores}
use Rattle.ln_code.proofs.Following.NodeLists.{need_positive}
use Rattle.ln_code.proofs.Building.Names.{NamesBelow}
use Rattle.ln_code.proofs.Building.Runs.{Cuts, Is, IsMachine, Leaves, Locals, Meaning, Runs, Trims, cuts_leave, get_leaves, is_pushed}
use Rattle.ln_code.proofs.Building.Runs.{leaves_then, nothing_runs, store_runs, then_runs, top, trims_leave}
use Rattle.ln_code.proofs.Building.Present.{LetStands, Present, at_other, at_set, none_present, present_kept, present_let, present_same}

-- ---- what is to be known of single nodes

-- of an operation on two, the left operand's value is on the stack, divided: each value of the right operand leads to that of the operation
abbrev pub Beside : {B V : Type 0} → Meaning B V → List Typed → Two → Typed → Typed → Range → Width → V → Type 0
Beside {V = V} m lets o t u p w x = (z : V) → m.stands lets u z → Cuts m (m.style lets) ((m.style lets).align o ((m.style lets).mark u) ((m.style lets).mark t))
    ((m.style lets).mark u) (λ v. Trims m (m.style lets) (op_of o ((m.style lets).at_width w)) ((m.style lets).raw (TTwo o t u p w))
    (m.stands lets (TTwo o t u p w)) (m.engine.two o ((m.style lets).at_width w) ((m.style lets).raw (TTwo o t u p w)) x v)) z

-- a name is of a let, whose value leads to the name's
pub record IsNamed {B V : Type 0} (m : Meaning B V) (lets : List Typed) (j : ℕ) (p : Range) (w : Width) : Type 0 where
  pub named : Typed
  pub there : slice_get lets j ≡ Some named
  pub leads : (x : V) → m.stands lets (TLet j (pair named) (width named)) x
      → Is m (Get j) (m.engine.again x ((m.style lets).mark (TLet j p w))) (m.stands lets (TLet j p w))

-- each node has a value from those of its operands
pub record Facts {B V : Type 0} (m : Meaning B V) : Type 0 where
  pub machine : IsMachine m
  pub at_number : (lets : List Typed) (c : ℤ) (p : Range) (w : Width) → m.good lets (TNum c p w)
      → Is m (Push c) (m.engine.push c ((m.style lets).mark (TNum c p w))) (m.stands lets (TNum c p w))
  pub at_variable : (lets : List Typed) (i : ℕ) (p : Range) (w : Width) → m.good lets (TInput i p w)
      → Trims m (m.style lets) (Input i) ((m.style lets).raw (TInput i p w)) (m.stands lets (TInput i p w))
      (m.engine.input i ((m.style lets).raw (TInput i p w)))
  pub at_zeroth : (lets : List Typed) (t : Typed) (p : Range) (w : Width) → m.good lets (TPow t zero p w)
      → Is m (Push (pos 1)) (m.engine.push (pos 1) ((m.style lets).mark (TPow t zero p w))) (m.stands lets (TPow t zero p w))
  -- a tree that is in a local, and a let by its name
  pub at_again : (lets : List Typed) (t : Typed) (j : ℕ) (x : V) → m.good lets t → m.stands lets t x
      → Is m (Get j) (m.engine.again x ((m.style lets).mark t)) (m.stands lets t)
  pub at_name : (lets : List Typed) (j : ℕ) (p : Range) (w : Width) → m.good lets (TLet j p w) → IsNamed m lets j p w
  pub at_opposite : (lets : List Typed) (t : Typed) (p : Range) (w : Width) (x : V) → m.good lets (TNeg t p w) → m.stands lets t x
      → Is m (Neg ((m.style lets).at_width w)) (m.engine.minus ((m.style lets).at_width w) ((m.style lets).mark (TNeg t p w)) x) (m.stands lets (TNeg t p w))
  -- both operands are divided, and so is the result
  pub at_two : (lets : List Typed) (o : Two) (t u : Typed) (p : Range) (w : Width) (x : V) → m.good lets (TTwo o t u p w) → m.stands lets t x
      → Cuts m (m.style lets) ((m.style lets).align o ((m.style lets).mark t) ((m.style lets).mark u)) ((m.style lets).mark t) (Beside m lets o t u p w) x
  -- a value is its first power, one more factor leads to the next one, and the last is the power
  pub at_first : (lets : List Typed) (t : Typed) (n : ℕ) (p : Range) (w : Width) (x : V) → m.good lets (TPow t (suc n) p w) → m.stands lets t x
      → m.stands lets (raised_to t 1 w) x
  pub at_factor : (lets : List Typed) (t : Typed) (n i : ℕ) (p : Range) (w : Width) (x z : V) → m.good lets (TPow t (suc n) p w) → suc i ≤ n
      → m.stands lets t x → m.stands lets (raised_to t (suc i) w) z
      → Trims m (m.style lets) (Mul ((m.style lets).at_width w)) ((m.style lets).raw (raised_to t (suc (suc i)) w))
      (m.stands lets (raised_to t (suc (suc i)) w))
      (m.engine.two Times ((m.style lets).at_width w) ((m.style lets).raw (raised_to t (suc (suc i)) w)) z x)
  pub at_power : (lets : List Typed) (t : Typed) (n : ℕ) (p : Range) (w : Width) (x : V) → m.good lets (TPow t (suc n) p w)
      → m.stands lets (raised_to t (suc n) w) x → m.stands lets (TPow t (suc n) p w) x
  -- operands of what may be written may be written
  pub operand : (lets : List Typed) (t : Typed) (p : Range) (w : Width) → m.good lets (TNeg t p w) → m.good lets t
  pub left : (lets : List Typed) (o : Two) (t u : Typed) (p : Range) (w : Width) → m.good lets (TTwo o t u p w) → m.good lets t
  pub right : (lets : List Typed) (o : Two) (t u : Typed) (p : Range) (w : Width) → m.good lets (TTwo o t u p w) → m.good lets u
  pub base : (lets : List Typed) (t : Typed) (n : ℕ) (p : Range) (w : Width) → m.good lets (TPow t n p w) → m.good lets t
  -- there is room for what may be written, and its names are of these lets
  pub deep : (lets : List Typed) (t : Typed) → m.good lets t → need t ≤ m.depth
  pub let_stands : (lets : List Typed) (t : Typed) → LetStands m lets t
  pub names : (lets : List Typed) (t : Typed) → m.good lets t → NamesBelow (length lets) (untyped t)

-- ---- nodes

-- the step of an operation on two
two_step : {B V : Type 0} (m : Meaning B V) (o : Two) (w : Width) (b : B) (x z : V) (s : State V (Locals V))
    → step m.engine (op_of o w) b s.locals (z ∷ (x ∷ s.stack)) ≡ next (m.engine.two o w b x z) (pushed m.engine s.locals s.stack)
two_step m Plus w b x z s = refl
two_step m Minus w b x z s = refl
two_step m Times w b x z s = refl

two_pushes : (o : Two) (w : Width) → stores (op_of o w) ≡ false
two_pushes Plus w = refl
two_pushes Minus w = refl
two_pushes Times w = refl

-- what follows the right operand
two_leaves : {B V : Type 0} (m : Meaning B V) (f : Facts m) (lets : List Typed) (o : Two) (t u : Typed) (p : Range) (w : Width) (x z : V)
    (s : State V (Locals V)) → Beside m lets o t u p w x → m.stands lets u z → suc (suc (length s.stack)) ≤ m.depth
    → Leaves m (m.stands lets (TTwo o t u p w)) (after_right (m.style lets) o t u p w) (top z (top x s)) s
two_leaves {B = B} m f lets o t u p w x z s h i d =
    let y : Style B = m.style lets in
    let b : B = (m.style lets).raw (TTwo o t u p w) in
    let v : Width = (m.style lets).at_width w in
    leaves_then m _ (m.stands lets (TTwo o t u p w)) (division y.divided (y.align o (y.mark u) (y.mark t)) (y.mark u)) (with_division y (op_of o v) b)
    (top z (top x s)) (top x s) s
    (cuts_leave m f.machine y (y.align o (y.mark u) (y.mark t)) (y.mark u) _ z (top x s) d (h z i))
    (λ c k. trims_leave m f.machine y (op_of o v) b _ (m.stands lets (TTwo o t u p w)) (top c (top x s)) s (two_pushes o v) (two_step m o v b x c s)
    (omega (arith, d)) k)

-- the factors from one power to a higher one, with the base in local 64
factors_leave : {B V : Type 0} (m : Meaning B V) (f : Facts m) (lets : List Typed) (t : Typed) (n k i : ℕ) (p : Range) (w : Width) (x z : V)
    (s : State V (Locals V)) → m.good lets (TPow t (suc n) p w) → k + i ≡ n → s.locals 64 ≡ Some x → m.stands lets t x
    → m.stands lets (raised_to t (suc i) w) z → suc (suc (length s.stack)) ≤ m.depth
    → Leaves m (m.stands lets (raised_to t (suc n) w)) (factors (m.style lets) t w (suc i) k) (top z s) s
factors_leave m f lets t n zero i p w x z s g e h a b d =
    let q : i ≡ n = omega (arith, e) in
    subst (λ c. Leaves m (m.stands lets (raised_to t (suc c) w)) [] (top z s) s) q (record { value = z; stands = b; runs = nothing_runs m (top z s) })
factors_leave {B = B} m f lets t n (suc k) i p w x z s g e h a b d =
    let y : Style B = m.style lets in
    let v : Width = (m.style lets).at_width w in
    let c : B = (m.style lets).raw (raised_to t (suc (suc i)) w) in
    let q : k + suc i ≡ n = omega (arith, e) in
    let j : suc i ≤ n = omega (arith, q) in
    leaves_then m (m.stands lets t) (m.stands lets (raised_to t (suc n) w)) (line (Get 64) (y.mark t) ∷ []) _ (top z s) (top z s) s
    (get_leaves m f.machine 64 (y.mark t) x (m.stands lets t) (top z s) h d (f.at_again lets t 64 x (f.base lets t (suc n) p w g) a))
    (λ o r. leaves_then m (m.stands lets (raised_to t (suc (suc i)) w)) (m.stands lets (raised_to t (suc n) w)) (with_division y (Mul v) c) _
    (top o (top z s)) s s
    (trims_leave m f.machine y (Mul v) c _ (m.stands lets (raised_to t (suc (suc i)) w)) (top o (top z s)) s refl refl (omega (arith, d))
    (f.at_factor lets t n i p w o z g j r b))
    (λ l u. factors_leave m f lets t n k (suc i) p w x l s g q h a u d))

-- the locals after the operations of the power n + 1 of this value: as before, but for local 64
abbrev power_locals : {V : Type 0} → ℕ → Locals V → V → Locals V
power_locals zero l x = l
power_locals (suc n) l x = with_local l 64 x

power_others : {V : Type 0} (n : ℕ) (l : Locals V) (x : V) (j : ℕ) → j ≢ 64 → power_locals n l x j ≡ l j
power_others zero l x j h = refl
power_others (suc n) l x j h = at_other l x 64 j h

-- the operations of a power
power_leaves : {B V : Type 0} (m : Meaning B V) (f : Facts m) (lets : List Typed) (t : Typed) (n : ℕ) (p : Range) (w : Width) (x : V)
    (s : State V (Locals V)) → m.good lets (TPow t (suc n) p w) → m.stands lets t x → suc (suc (length s.stack)) ≤ m.depth
    → Leaves m (m.stands lets (raised_to t (suc n) w)) (power_of (m.style lets) t w n) (top x s)
    (record { stack = s.stack; locals = power_locals n s.locals x })
power_leaves m f lets t zero p w x s g a d = record { value = x; stands = f.at_first lets t 0 p w x g a; runs = nothing_runs m (top x s) }
power_leaves {B = B} {V = V} m f lets t (suc n) p w x s g a d =
    let y : Style B = m.style lets in
    let u : State V (Locals V) = record { stack = s.stack; locals = with_local s.locals 64 x } in
    let e : suc n + 0 ≡ suc n = omega arith in
    let z = leaves_then m (m.stands lets t) (m.stands lets (raised_to t (suc (suc n)) w)) (line (Get 64) (y.mark t) ∷ []) (factors y t w 1 (suc n)) u u u
    (get_leaves m f.machine 64 (y.mark t) x (m.stands lets t) u refl (omega (arith, d)) (f.at_again lets t 64 x (f.base lets t (suc (suc n)) p w g) a))
    (λ o r. factors_leave m f lets t (suc n) (suc n) 0 p w x o u g e refl a (f.at_first lets t (suc n) p w o g r) d) in
    record { value = z.value; stands = z.stands; runs = then_runs m (line (Set 64) y.none ∷ []) _ (store_runs m f.machine 64 y.none x s) z.runs }

-- ---- trees

-- the operations of a tree leave a value that stands for it, with its lets and these trees in locals
pub record Lands {B V : Type 0} (m : Meaning B V) (lets kept : List Typed) (t : Typed) (lines : List (Line B)) (s : State V (Locals V)) : Type 0 where
  pub value : V
  pub stands : m.stands lets t value
  pub locals : Locals V
  pub runs : Runs m lines s (record { stack = value ∷ s.stack; locals = locals })
  pub present : Present m lets kept locals

lands_leaf : {B V : Type 0} (m : Meaning B V) (lets kept : List Typed) (t : Typed) (lines : List (Line B)) (s : State V (Locals V))
    → Present m lets kept s.locals → Leaves m (m.stands lets t) lines s s → Lands m lets (kept ++ []) t lines s
lands_leaf m lets kept t lines s h x = record {
  value = x.value;
  stands = x.stands;
  locals = s.locals;
  runs = x.runs;
  present = subst (λ now. Present m lets now s.locals) (sym (append-nil kept)) h;
}

-- operations that follow those of an operand
lands_last : {B V : Type 0} (m : Meaning B V) (lets kept : List Typed) (t u : Typed) (a b : List (Line B)) (s : State V (Locals V))
    (x : Lands m lets kept t a s) → Leaves m (m.stands lets u) b (top x.value (record { stack = s.stack; locals = x.locals }))
    (record { stack = s.stack; locals = x.locals })
    → Lands m lets kept u (a ++ b) s
lands_last m lets kept t u a b s x y =
    record { value = y.value; stands = y.stands; locals = x.locals; runs = then_runs m a b x.runs y.runs; present = x.present }

-- from a tree's value on the stack to the same in a local and on the stack
lands_kept : {B V : Type 0} (m : Meaning B V) (f : Facts m) (lets kept : List Typed) (t : Typed) (lines : List (Line B)) (s : State V (Locals V))
    → m.good lets t → suc (length s.stack) ≤ m.depth → Lands m lets kept t lines s
    → Lands m lets (kept ++ (t ∷ [])) t (lines ++ keeping (m.style lets).none (65 + length kept) ((m.style lets).mark t)) s
lands_kept {B = B} {V = V} m f lets kept t lines s g d x =
    let j : ℕ = 65 + length kept in
    let b : B = (m.style lets).mark t in
    let after : State V (Locals V) = record { stack = s.stack; locals = with_local x.locals (65 + length kept) x.value } in
    let y = get_leaves m f.machine j b x.value (m.stands lets t) after (at_set x.locals x.value j j refl) d (f.at_again lets t j x.value g x.stands) in
    let set = store_runs m f.machine j (m.style lets).none x.value (record { stack = s.stack; locals = x.locals }) in
    record {
      value = y.value;
      stands = y.stands;
      locals = with_local x.locals (65 + length kept) x.value;
      runs = then_runs m lines _ x.runs (then_runs m (line (Set j) (m.style lets).none ∷ []) _ set y.runs);
      present = present_kept m lets kept x.locals t x.value x.present x.stands (f.names lets t g);
    }

-- the operations of a tree that may be written leave a value that stands for it
pub lands : {B V : Type 0} (m : Meaning B V) (f : Facts m) (lets : List Typed) {kept : List Typed} {t : Typed} {lines : List (Line B)}
    {new : List Typed} {b : Bool} (s : State V (Locals V)) → IsCode (m.style lets) kept t lines new b → m.good lets t
    → Present m lets kept s.locals → need t + length s.stack ≤ m.depth → Lands m lets (kept ++ new) t lines s
lands m f lets s (number {kept = kept} c p w) g h d =
    lands_leaf m lets kept _ _ s h (is_pushed m f.machine (line (Push c) _) _ _ s s refl refl (f.at_number lets c p w g) (omega (arith, d)))
lands m f lets s (variable {kept = kept} v p w) g h d =
    lands_leaf m lets kept _ _ s h (trims_leave m f.machine (m.style lets) (Input v) _ _ _ s s refl refl (omega (arith, d)) (f.at_variable lets v p w g))
lands m f lets s (name {kept = kept} j p w) g h d =
    let n = f.at_name lets j p w g in
    let x = h.lets_there j n.named n.there in
    lands_leaf m lets kept _ _ s h (get_leaves m f.machine j _ x.value _ s x.there (omega (arith, d)) (n.leads x.value x.stands))
lands m f lets s (again {kept = kept} {t = t} i e) g h d =
    let n : 1 ≤ need t = need_positive t in
    let k = h.kept_there i t e in
    let x = k.holds in
    lands_leaf m lets kept _ _ s h (get_leaves m f.machine (65 + i) _ x.value _ s x.there (omega (arith, n, d)) (f.at_again lets t (65 + i) x.value g x.stands))
lands m f lets s (opposite {kept = kept} {more = new} {t = t} p w x) g h d =
    let n : 1 ≤ need t = need_positive t in
    let i = lands m f lets s x (f.operand lets t p w g) h d in
    lands_last m lets (kept ++ new) t _ _ _ s i (is_pushed m f.machine (line (Neg ((m.style lets).at_width w)) _) _ _
    (record { stack = i.value ∷ s.stack; locals = i.locals }) (record { stack = s.stack; locals = i.locals }) refl refl
    (f.at_opposite lets t p w i.value g i.stands) (omega (arith, n, d)))
lands {V = V} m f lets s (two {kept = kept} {m = a} {n = c} {t = t} {u = u} {left = left} {right = right} o p w x y) g h d =
    let n : 1 ≤ need u = need_positive u in
    let e : suc (suc (length s.stack)) ≤ m.depth = omega (arith, n, d) in
    let i = lands m f lets s x (f.left lets o t u p w g) h (omega (arith, d)) in
    let first : State V (Locals V) = record { stack = s.stack; locals = i.locals } in
    let k = cuts_leave m f.machine (m.style lets) _ _ (Beside m lets o t u p w) i.value first (omega (arith, e)) (f.at_two lets o t u p w i.value g i.stands) in
    let j = lands m f lets (top k.value first) y (f.right lets o t u p w g) i.present (omega (arith, d)) in
    let last : State V (Locals V) = record { stack = s.stack; locals = j.locals } in
    let z = two_leaves m f lets o t u p w k.value j.value last k.stands j.stands e in
    record {
      value = z.value;
      stands = z.stands;
      locals = j.locals;
      runs = then_runs m left (after_left (m.style lets) o t u ++ (right ++ after_right (m.style lets) o t u p w)) i.runs
          (then_runs m (after_left (m.style lets) o t u) _
          k.runs (then_runs m right (after_right (m.style lets) o t u p w) j.runs z.runs));
      present = subst (λ now. Present m lets now j.locals) (append_assoc kept a c) j.present;
    }
lands m f lets s (zeroth {kept = kept} t p w) g h d =
    lands_leaf m lets kept _ _ s h (is_pushed m f.machine (line (Push (pos 1)) _) _ _ s s refl refl (f.at_zeroth lets t p w g) (omega (arith, d)))
lands m f lets s (raised {kept = kept} {more = new} {t = t} {lines = lines} n p w x) g h d =
    let i = lands m f lets s x (f.base lets t (suc n) p w g) h (omega (arith, d)) in
    let y = power_leaves m f lets t n p w i.value (record { stack = s.stack; locals = i.locals }) g i.stands (omega (arith, d)) in
    record {
      value = y.value;
      stands = f.at_power lets t n p w y.value g y.stands;
      locals = power_locals n i.locals i.value;
      runs = then_runs m lines _ i.runs y.runs;
      present = present_same m lets (kept ++ new) i.locals (power_locals n i.locals i.value) i.present
          (λ j z. power_others n i.locals i.value j (λ q. absurd (omega (arith, q, z))))
          (λ j z. power_others n i.locals i.value (65 + j) (λ q. absurd (omega (arith, q))));
    }
lands m f lets s (keep {kept = kept} {more = before} {t = t} {lines = lines} x) g h d =
    let n : 1 ≤ need t = need_positive t in
    let i = lands_kept m f lets (kept ++ before) t lines s g (omega (arith, n, d)) (lands m f lets s x g h d) in
    subst (λ now. Lands m lets now t (lines ++ keeping (m.style lets).none (65 + length (kept ++ before)) ((m.style lets).mark t)) s)
    (append_assoc kept before (t ∷ [])) i

-- ---- lets

-- each of these trees may be written after those before it, after the first
abbrev pub AreGood : {B V : Type 0} → Meaning B V → List Typed → List Typed → Type 0
AreGood m done [] = Unit {0}
AreGood m done (t ∷ ts) = m.good done t × AreGood m (done ++ (t ∷ [])) ts

-- all but the last, and the last after them
good_snoc : {B V : Type 0} (m : Meaning B V) (done ts : List Typed) (t : Typed) → AreGood m done (ts ++ (t ∷ [])) → AreGood m done ts × m.good (done ++ ts) t
good_snoc m done [] t s = (tt, subst (λ ls. m.good ls t) (sym (append-nil done)) s.0)
good_snoc m done (u ∷ us) t s =
    let r = good_snoc m (done ++ (u ∷ [])) us t s.1 in
    ((s.0, r.0), subst (λ ls. m.good ls t) (append_assoc done (u ∷ []) us) r.1)

-- before any operation: nothing on the stack, and no locals
abbrev pub empty : {V : Type 0} → State V (Locals V)
empty = record { stack = []; locals = no_locals }

-- the operations of lets leave an empty stack, with each let and these trees in locals
pub record LetsLand {B V : Type 0} (m : Meaning B V) (lets kept : List Typed) (lines : List (Line B)) : Type 0 where
  pub locals : Locals V
  pub runs : Runs m lines empty (record { stack = []; locals = locals })
  pub present : Present m lets kept locals

-- the operations of at most 64 lets leave each in its local
pub lets_land : {B V : Type 0} (m : Meaning B V) (f : Facts m) {lets kept : List Typed} {lines : List (Line B)} → AreCode m.style lets lines kept
    → length lets ≤ 64 → AreGood m [] lets → LetsLand m lets kept lines
lets_land m f none few g = record { locals = no_locals; runs = nothing_runs m empty; present = none_present m }
lets_land {B = B} {V = V} m f (more {ts = ts} {t = t} {lines = lines} {last = last} {kept = kept} {new = new} h w) few g =
    let n = length-append ts (t ∷ []) in
    let r = good_snoc m [] ts t g in
    let good : m.good ts t = r.1 in
    let x = lets_land m f h (omega (arith, few, n)) r.0 in
    let deep = f.deep ts t good in
    let s : State V (Locals V) = record { stack = []; locals = x.locals } in
    let y = lands m f ts s w good x.present (omega (arith, deep)) in
    let set : List (Line B) = line (Set (length ts)) (m.style ts).none ∷ [] in
    let stored = store_runs m f.machine (length ts) (m.style ts).none y.value (record { stack = []; locals = y.locals }) in
    record {
      locals = with_local y.locals (length ts) y.value;
      runs = then_runs m lines (last ++ set) x.runs (then_runs m last set y.runs stored);
      present = present_let m ts (kept ++ new) y.locals t y.value y.present y.stands (omega (arith, few, n)) (f.let_stands ts t);
    }

-- ---- a block

-- the operations of lets and of a tree after them leave one value, which stands for the tree
pub record CodeLands {B V : Type 0} (m : Meaning B V) (lets : List Typed) (t : Typed) (lines : List (Line B)) : Type 0 where
  pub value : V
  pub stands : m.stands lets t value
  pub locals : Locals V
  pub kept : List Typed
  pub runs : Runs m lines empty (record { stack = value ∷ []; locals = locals })
  pub present : Present m lets kept locals

-- code of at most 64 lets and of a tree, each of which may be written after the lets before it
pub code_lands : {B V : Type 0} (m : Meaning B V) (f : Facts m) (lets : List Typed) (t : Typed) (lines : List (Line B)) → IsCodeIn m.style lets t lines
    → length lets ≤ 64 → AreGood m [] lets → m.good lets t → CodeLands m lets t lines
code_lands {V = V} m f lets t lines c few are good =
    let x = lets_land m f c.lets_code few are in
    let s : State V (Locals V) = record { stack = []; locals = x.locals } in
    let deep = f.deep lets t good in
    let y = lands m f lets s c.root_code good x.present (omega (arith, deep)) in
    rw c.all (record {
      value = y.value;
      stands = y.stands;
      locals = y.locals;
      kept = c.kept ++ c.new;
      runs = then_runs m c.first c.last x.runs y.runs;
      present = y.present;
    })
