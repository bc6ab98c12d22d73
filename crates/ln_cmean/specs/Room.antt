-- Defines what a scratch has room for, and what a call leaves of it.
use Rattle.std.specs.Prelude.{◌≡◌, ℕ, ◌+◌, ◌≤◌, max, List, [], ◌∷◌, length, take, vec_capacity}
use Rattle.ln_csyn.specs.Tree.{Body, End, Decl, Group, If, Return, Fun}
use Rattle.ln_csyn.specs.Keeps.{names_of}
use Rattle.ln_csyn.specs.Sets.{names_in}
use Rattle.ln_cmean.specs.declared.stack.Stack.{Stack}
use Rattle.ln_cmean.specs.declared.scratch.CScratch.{CScratch}

-- room for this many more declarations
pub record HasRoom (s : Stack) (slots : ℕ) : Type 0 where
  pub based : s.base ≤ length s.slots.items
  pub fit : length s.slots.items + slots ≤ vec_capacity s.slots

-- the new stack has room for no fewer declarations than the old one
abbrev pub IsNoSmaller : Stack → Stack → Type 0
IsNoSmaller old new = vec_capacity old.slots ≤ vec_capacity new.slots

-- the same declarations
pub record IsSame (old new : Stack) : Type 0 where
  pub base_same : new.base ≡ old.base
  pub slots_same : new.slots.items ≡ old.slots.items

-- what was there is a prefix of what is there
pub record IsExtended (old new : Stack) : Type 0 where
  pub base_front : new.base ≡ old.base
  pub slots_front : take (length old.slots.items) new.slots.items ≡ old.slots.items

-- how many declarations are visible at once at most
abbrev pub slots_in : Body → ℕ
slots_in End = 0
slots_in (Decl l t x e rest) = 1 + slots_in rest
slots_in (Group l b rest) = max (slots_in b) (slots_in rest)
slots_in (If l e b rest) = max (slots_in b) (slots_in rest)
slots_in (Return l e rest) = slots_in rest

-- the most that a function of these needs
abbrev pub most_slots : List Fun → ℕ
most_slots [] = 0
most_slots (f ∷ fs) = max (slots_in f.body) (most_slots fs)

-- The scratch is made for a file of these functions: it finds them by their names, and has room for the declarations of a function and for
-- those of one that it calls.
pub record MadeFor (fs : List Fun) (s : CScratch) : Type 0 where
  pub named : names_in s.funs ≡ names_of fs
  pub fit : most_slots fs + most_slots fs ≤ vec_capacity s.stack.slots
