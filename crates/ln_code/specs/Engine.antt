-- A stack machine over values of any kind: one definition, of which the meaning of a program, the rules on it and the processor
-- are instances.
use Rattle.std.specs.Prelude.{ℕ, suc, ℤ, Bool, true, false, List, [], ◌∷◌, length, Option, Some, None}
use Rattle.ln_bound.specs.declared.fitted.Width.{Width}
use Rattle.ln_bound.specs.declared.fitted.Two.{Two}
use Rattle.ln_bound.specs.declared.fitted.Two.TheVariants.{Plus, Minus, Times}
use Rattle.ln_code.specs.declared.op.Op.{Op}
use Rattle.ln_code.specs.declared.op.Op.TheVariants.{Push, Input, Get, Set, Add, Sub, Mul, Neg, Cut}

-- what a machine does with its values V, its locals L and the bounds B of its operations. None: it has no result
pub record Engine (B V L : Type 0) : Type 0 where
  pub push : ℤ → B → Option V
  pub input : ℕ → B → Option V
  pub again : V → B → Option V
  pub two : Two → Width → B → V → V → Option V
  pub minus : Width → B → V → Option V
  pub cut : ℕ → B → V → Option V
  pub got : L → ℕ → Option V
  pub put : L → ℕ → V → L
  pub room : ℕ → Bool

-- the stack, whose last value is first, and the locals
pub record State (V L : Type 0) : Type 0 where
  pub stack : List V
  pub locals : L

-- an operation with its bound
pub record Line (B : Type 0) : Type 0 where
  pub op : Op
  pub bound : B

-- the sum, the difference or the product at this width
abbrev pub op_of : Two → Width → Op
op_of Plus w = Add w
op_of Minus w = Sub w
op_of Times w = Mul w

-- a, where the test holds
abbrev pub when : {A : Type 0} → Bool → A → Option A
when true a = Some a
when false a = None

-- go on with what there is
abbrev pub next : {A B : Type 0} → Option A → (A → Option B) → Option B
next None f = None
next (Some a) f = f a

-- the state after a push, where there is room
abbrev pub pushed : {B V L : Type 0} → Engine B V L → L → List V → V → Option (State V L)
pushed e l rest v = when (e.room (suc (length rest))) (record { stack = v ∷ rest; locals = l })

-- a value is taken off the stack, and the result is pushed
abbrev pub with_one : {B V L : Type 0} → Engine B V L → (V → Option V) → L → List V → Option (State V L)
with_one e f l [] = None
with_one e f l (x ∷ rest) = next (f x) (pushed e l rest)

-- two values are taken off the stack, the right operand first
abbrev pub with_two : {B V L : Type 0} → Engine B V L → (V → V → Option V) → L → List V → Option (State V L)
with_two e f l [] = None
with_two e f l (y ∷ []) = None
with_two e f l (y ∷ (x ∷ rest)) = next (f x y) (pushed e l rest)

-- a value is taken off the stack into local j
abbrev pub stored : {B V L : Type 0} → Engine B V L → ℕ → L → List V → Option (State V L)
stored e j l [] = None
stored e j l (x ∷ rest) = Some (record { stack = rest; locals = e.put l j x })

-- one operation
abbrev pub step : {B V L : Type 0} → Engine B V L → Op → B → L → List V → Option (State V L)
step e (Push c) b l s = next (e.push c b) (pushed e l s)
step e (Input v) b l s = next (e.input v b) (pushed e l s)
step e (Get j) b l s = next (next (e.got l j) (λ x. e.again x b)) (pushed e l s)
step e (Set j) b l s = stored e j l s
step e (Add w) b l s = with_two e (e.two Plus w b) l s
step e (Sub w) b l s = with_two e (e.two Minus w b) l s
step e (Mul w) b l s = with_two e (e.two Times w b) l s
step e (Neg w) b l s = with_one e (e.minus w b) l s
step e (Cut n) b l s = with_one e (e.cut n b) l s

-- operations one after the other
abbrev pub run : {B V L : Type 0} → Engine B V L → List (Line B) → State V L → Option (State V L)
run e [] s = Some s
run e (line ∷ lines) s = next (step e line.op line.bound s.locals s.stack) (λ t. run e lines t)

-- the one value of a stack
abbrev pub only : {V : Type 0} → List V → Option V
only [] = None
only (x ∷ []) = Some x
only (x ∷ (y ∷ rest)) = None

-- from an empty stack to the one remaining value
abbrev pub answer : {B V L : Type 0} → Engine B V L → L → List (Line B) → Option V
answer e l lines = next (run e lines (record { stack = []; locals = l })) (λ s. only s.stack)
