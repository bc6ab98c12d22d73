-- What code is to do in a machine: the values that stand for trees, and runs of one part of the operations after the other.
use Rattle.std.proofs.Common.{◌≡◌, ℕ, ◌≤◌, true, false, List, [], ◌∷◌, ◌++◌, length, refl, zero, suc, ap, ◌∙◌}
use Rattle.std.specs.Prelude.{Option, Some}
use Rattle.ln_bound.specs.Typed.{Typed}
use Rattle.ln_code.specs.declared.op.Op.{Op}
use Rattle.ln_code.specs.declared.op.Op.TheVariants.{Cut, Get, Set}
use Rattle.ln_code.specs.Engine.{Engine, State, Line, next, pushed, run, step}
use Rattle.ln_code.specs.Kept.{stores}
use Rattle.ln_code.specs.Numbers.{with_local}
use Rattle.ln_code.specs.Pushes.{AllPushed, Pushed, pushes}
use Rattle.ln_code.specs.StackCode.{Style, division, line, with_division}
use Rattle.ln_code.proofs.Engines.Behind.{pushes_append, pushes_front, then_run}

-- what each local holds, if it holds anything
abbrev pub Locals : Type 0 → Type 0
Locals V = ℕ → Option V

-- a machine with locals and a stack of this depth, and what code means in it: how trees are written after these lets, which trees may be written
-- after them, which values stand for a tree after them, and what may be pushed
pub record Meaning (B V : Type 0) : Type 1 where
  pub engine : Engine B V (Locals V)
  pub depth : ℕ
  pub style : List Typed → Style B
  pub good : List Typed → Typed → Type 0
  pub stands : List Typed → Typed → V → Type 0
  pub may : Pushed V → Type 0

-- one more value on the stack
abbrev pub top : {V : Type 0} → V → State V (Locals V) → State V (Locals V)
top v s = record { stack = v ∷ s.stack; locals = s.locals }

-- the operations lead from one state to another, and push what may be pushed
pub record Runs {B V : Type 0} (m : Meaning B V) (lines : List (Line B)) (s t : State V (Locals V)) : Type 0 where
  pub ends : run m.engine lines s ≡ Some t
  pub each : AllPushed m.may (pushes m.engine lines s)

-- a value that stands for a tree is there
pub record Holds {B V : Type 0} (m : Meaning B V) (lets : List Typed) (t : Typed) (o : Option V) : Type 0 where
  pub value : V
  pub there : o ≡ Some value
  pub stands : m.stands lets t value

-- the operations leave a value with a property on the stack of the second state
pub record Leaves {B V : Type 0} (m : Meaning B V) (is : V → Type 0) (lines : List (Line B)) (s r : State V (Locals V)) : Type 0 where
  pub value : V
  pub stands : is value
  pub runs : Runs m lines s (top value r)

-- what is pushed by two parts
pub all_append : {V : Type 0} (P : Pushed V → Type 0) (xs ys : List (Pushed V)) → AllPushed P xs → AllPushed P ys → AllPushed P (xs ++ ys)
all_append P [] ys a b = b
all_append P (x ∷ xs) ys a b = (a.0, all_append P xs ys a.1 b)

-- no operations
pub nothing_runs : {B V : Type 0} (m : Meaning B V) (s : State V (Locals V)) → Runs m [] s s
nothing_runs m s = record { ends = refl; each = tt }

-- two parts, one after the other
pub then_runs : {B V : Type 0} (m : Meaning B V) (a b : List (Line B)) {s t u : State V (Locals V)} → Runs m a s t → Runs m b t u → Runs m (a ++ b) s u
then_runs m a b {s = s} {t = t} x y = record {
  ends = then_run m.engine a b s t _ x.ends y.ends;
  each = rw (pushes_append m.engine a b s t x.ends) (all_append m.may (pushes m.engine a s) (pushes m.engine b t) x.each y.each);
}

-- an operation that pushes a value
pub push_runs : {B V : Type 0} (m : Meaning B V) (x : Line B) (v : V) (s t : State V (Locals V)) → stores x.op ≡ false
    → step m.engine x.op x.bound s.locals s.stack ≡ Some (top v t) → m.may (record { op = x.op; value = v }) → Runs m (x ∷ []) s (top v t)
push_runs m x v s t f e h = record {
  ends = rw e refl;
  each = rw (pushes_front m.engine x [] s (top v t) e, f) (h, tt);
}

-- what follows the operations that leave a value
pub leaves_then : {B V : Type 0} (m : Meaning B V) (P Q : V → Type 0) (a b : List (Line B)) (s r t : State V (Locals V)) → Leaves m P a s r
    → ((v : V) → P v → Leaves m Q b (top v r) t) → Leaves m Q (a ++ b) s t
leaves_then m P Q a b s r t x f =
    let y = f x.value x.stands in
    record { value = y.value; stands = y.stands; runs = then_runs m a b x.runs y.runs }

-- ---- single operations

-- there is a value, it may be pushed by this operation, and it has the property
pub record Is {B V : Type 0} (m : Meaning B V) (op : Op) (o : Option V) (P : V → Type 0) : Type 0 where
  pub value : V
  pub there : o ≡ Some value
  pub may : m.may (record { op = op; value = value })
  pub stands : P value

-- x has the property after its division by 2^n, where its bound is b
abbrev pub Cuts : {B V : Type 0} → Meaning B V → Style B → ℕ → B → (V → Type 0) → V → Type 0
Cuts m y zero b P x = P x
Cuts m y (suc n) b P x = Is m (Cut (suc n)) (m.engine.cut (suc n) (y.divided (suc n) b) x) P

-- the value of an operation has the property after the division that follows it
abbrev pub Trims : {B V : Type 0} → Meaning B V → Style B → Op → B → (V → Type 0) → Option V → Type 0
Trims m y op b P o = Is m op o (Cuts m y (y.excess b) b P)

-- there is room for a number of values, and locals are the machine's own
pub record IsMachine {B V : Type 0} (m : Meaning B V) : Type 0 where
  pub room : (n : ℕ) → n ≤ m.depth → m.engine.room n ≡ true
  pub got : (l : Locals V) (j : ℕ) → m.engine.got l j ≡ l j
  pub put : (l : Locals V) (j : ℕ) (v : V) → m.engine.put l j v ≡ with_local l j v

-- an operation whose value is pushed
pub is_pushed : {B V : Type 0} (m : Meaning B V) (k : IsMachine m) (x : Line B) (o : Option V) (P : V → Type 0) (s t : State V (Locals V))
    → stores x.op ≡ false → step m.engine x.op x.bound s.locals s.stack ≡ next o (pushed m.engine t.locals t.stack) → Is m x.op o P
    → suc (length t.stack) ≤ m.depth → Leaves m P (x ∷ []) s t
is_pushed m k x o P s t f e i d = record {
  value = i.value;
  stands = i.stands;
  runs = push_runs m x i.value s t f (e ∙ (rw (i.there, k.room (suc (length t.stack)) d) refl)) i.may;
}

-- a division
pub cuts_leave : {B V : Type 0} (m : Meaning B V) (k : IsMachine m) (y : Style B) (n : ℕ) (b : B) (P : V → Type 0) (x : V) (s : State V (Locals V))
    → suc (length s.stack) ≤ m.depth → Cuts m y n b P x → Leaves m P (division y.divided n b) (top x s) s
cuts_leave m k y zero b P x s d h = record { value = x; stands = h; runs = nothing_runs m (top x s) }
cuts_leave m k y (suc n) b P x s d h = is_pushed m k (line (Cut (suc n)) (y.divided (suc n) b)) _ P (top x s) s refl refl h d

-- an operation and the division that follows it
pub trims_leave : {B V : Type 0} (m : Meaning B V) (k : IsMachine m) (y : Style B) (op : Op) (b : B) (o : Option V) (P : V → Type 0)
    (s t : State V (Locals V)) → stores op ≡ false → step m.engine op b s.locals s.stack ≡ next o (pushed m.engine t.locals t.stack)
    → suc (length t.stack) ≤ m.depth → Trims m y op b P o → Leaves m P (with_division y op b) s t
trims_leave m k y op b o P s t f e d h = leaves_then m (Cuts m y (y.excess b) b P) P (line op b ∷ []) (division y.divided (y.excess b) b) s t t
    (is_pushed m k (line op b) o (Cuts m y (y.excess b) b P) s t f e h d) (λ v i. cuts_leave m k y (y.excess b) b P v t d i)

-- a value in a local is taken from there
pub get_leaves : {B V : Type 0} (m : Meaning B V) (k : IsMachine m) (j : ℕ) (b : B) (x : V) (P : V → Type 0) (s : State V (Locals V)) → s.locals j ≡ Some x
    → suc (length s.stack) ≤ m.depth → Is m (Get j) (m.engine.again x b) P → Leaves m P (line (Get j) b ∷ []) s s
get_leaves m k j b x P s e d h = is_pushed m k (line (Get j) b) (m.engine.again x b) P s s refl (rw (k.got s.locals j, e) refl) h d

-- a value is stored in a local
pub store_runs : {B V : Type 0} (m : Meaning B V) (k : IsMachine m) (j : ℕ) (b : B) (x : V) (s : State V (Locals V))
    → Runs m (line (Set j) b ∷ []) (top x s) (record { stack = s.stack; locals = with_local s.locals j x })
store_runs m k j b x s = record { ends = ap (λ l. Some (record { stack = s.stack; locals = l })) (k.put s.locals j x); each = tt }
