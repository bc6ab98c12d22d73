-- What a run pushes, in order.
use Rattle.std.specs.Prelude.{Bool, true, false, List, [], ◌∷◌, ◌++◌, Option, Some, None}
use Rattle.ln_code.specs.declared.op.Op.{Op}
use Rattle.ln_code.specs.Engine.{Engine, State, Line, step}
use Rattle.ln_code.specs.Kept.{stores}

-- an operation and the value that it pushed
pub record Pushed (V : Type 0) : Type 0 where
  pub op : Op
  pub value : V

-- what an operation has pushed, which is the top of the stack after it; nothing where it stores
abbrev pub newest : {V : Type 0} → Op → Bool → List V → List (Pushed V)
newest op true stack = []
newest op false [] = []
newest op false (v ∷ rest) = record { op = op; value = v } ∷ []

-- what is pushed by an operation that leads to this state, and then by those that follow; nothing where it leads nowhere
abbrev pub after : {V L : Type 0} → Op → Option (State V L) → (State V L → List (Pushed V)) → List (Pushed V)
after op None f = []
after op (Some t) f = newest op (stores op) t.stack ++ f t

-- what the operations push from this state on
abbrev pub pushes : {B V L : Type 0} → Engine B V L → List (Line B) → State V L → List (Pushed V)
pushes e [] s = []
pushes e (x ∷ xs) s = after x.op (step e x.op x.bound s.locals s.stack) (λ t. pushes e xs t)

-- each of these has the property
abbrev pub AllPushed : {V : Type 0} → (Pushed V → Type 0) → List (Pushed V) → Type 0
AllPushed P [] = Unit {0}
AllPushed P (p ∷ ps) = P p × AllPushed P ps
