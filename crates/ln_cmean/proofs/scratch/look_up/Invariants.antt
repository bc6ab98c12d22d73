use Rattle.std.proofs.Common.{length, reverse}
use Rattle.ln_cmean.proofs.Look.{IsAt}
use Rattle.ln_cmean.proofs.scratch.look_up.Given as goal

abbrev pub invariant-slots : goal.invariant-slots
invariant-slots l = IsAt l.s.base (length l.s.tops.items) (reverse l.s.slots.items) l.name l.n

abbrev pub decreases-slots : goal.decreases-slots
decreases-slots l = l.n
