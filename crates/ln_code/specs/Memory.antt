-- What the memory of the processor holds.
use Rattle.std.specs.Prelude.{◌≡◌, ℕ, zero, suc, ◌-◌, ◌≤◌, true, ℤ, pos, List, [], ◌∷◌, length, slice_index_or, All, Option, IfSome}
use Rattle.ln_bound.specs.declared.fitted.Width.{Width}
use Rattle.ln_bound.specs.declared.fitted.Two.{Two}
use Rattle.ln_code.specs.declared.op.Op.{Op}
use Rattle.ln_code.specs.declared.op.Triple.{Triple}
use Rattle.ln_code.specs.declared.scratch.Scratch.{Scratch}
use Rattle.ln_code.specs.Engine.{Line, State, step, answer}
use Rattle.ln_code.specs.Numbers.{fits, result_of}
use Rattle.ln_code.specs.Bare.{bare}
use Rattle.ln_code.specs.Part.{Part}

-- the first n places of the buffer, the last of them first
abbrev pub seen : List ℤ → ℕ → List ℤ
seen buffer zero = []
seen buffer (suc n) = slice_index_or buffer n (pos 0) ∷ seen buffer n

-- the number at each place
abbrev pub at : List ℤ → ℕ → ℤ
at xs k = slice_index_or xs k (pos 0)

-- the operations of a block, for the processor
abbrev pub plain : List Op → List (Line ℕ)
plain [] = []
plain (o ∷ os) = record { op = o; bound = 0 } ∷ plain os

-- the operations of a filter, each with the k of its triple
abbrev pub shifted : List Op → List Triple → List (Line ℕ)
shifted [] as' = []
shifted (o ∷ os) [] = []
shifted (o ∷ os) (a ∷ as') = record { op = o; bound = a.k } ∷ shifted os as'

-- where the operation leads the processor
abbrev pub leads : Op → ℕ → List ℤ → List ℤ → ℕ → List ℤ → Option (State ℤ (ℕ → ℤ))
leads op k values stack top locals = step (bare values (length stack)) op k (at locals) (seen stack top)

-- what the processor computes
abbrev pub bare_value : List (Line ℕ) → List ℤ → List ℤ → List ℤ → Option ℤ
bare_value lines values stack locals = answer (bare values (length stack)) (at locals) lines

-- two operands are there, and all fits
pub record TwoReady (kind : Two) (width : Width) (stack : List ℤ) (top : ℕ) : Type 0 where
  pub deep : 2 ≤ top
  pub room : top ≤ length stack
  pub left : fits width (at stack (top - 2)) ≡ true
  pub right : fits width (at stack (top - 1)) ≡ true
  pub result : fits width (result_of kind (at stack (top - 2)) (at stack (top - 1))) ≡ true

-- a scratch with this many places and locals is large enough for the part
pub record MadeFor (part : Part) (scratch : Scratch) : Type 0 where
  pub locals : 256 ≤ length scratch.locals.items
  pub blocks : All (λ c. c.depth ≤ length scratch.stack.items) part.blocks
  pub filter : IfSome part.filter (λ f. f.depth ≤ length scratch.stack.items)
