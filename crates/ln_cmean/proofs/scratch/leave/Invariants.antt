use Rattle.std.proofs.Common.{◌≡◌, ◌≤◌, length, take, vec_capacity}
use Rattle.ln_cmean.proofs.scratch.leave.Given as goal

abbrev pub invariant-slots : goal.invariant-slots
invariant-slots l = record {
  slots : take l.slots l.s.slots.items ≡ take l.slots l.fn.s.slots.items;
  base : l.s.base ≡ l.fn.s.base;
  capacity : vec_capacity l.fn.s.slots ≤ vec_capacity l.s.slots;
}

abbrev pub decreases-slots : goal.decreases-slots
decreases-slots l = length l.s.slots.items
