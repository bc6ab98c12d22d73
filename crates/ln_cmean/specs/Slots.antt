-- The declarations that a stack holds.
use Rattle.std.specs.Prelude.{ℕ, ◌-◌, List, length, take, reverse, map}
use Rattle.ln_cmean.specs.declared.slot.Slot.{Slot}
use Rattle.ln_cmean.specs.declared.stack.Stack.{Stack}
use Rattle.ln_csyn.specs.Meaning.{Seen}

-- a declaration as the meaning has it
abbrev pub shown : Slot → Seen
shown d = record { name = d.name.now; kind = d.kind; number = d.number }

-- those of these declarations, the innermost first, that are above the base
abbrev pub seen_from : ℕ → List Slot → List Seen
seen_from base ds = map shown (take (length ds - base) ds)

-- those of the function that runs, the innermost first
abbrev pub seen : Stack → List Seen
seen s = seen_from s.base (reverse s.slots.items)
