use Rattle.std.proofs.Common.{length, ◌-◌, ◌+◌}
use Rattle.ln_poly.specs.Times.{IsMerged}
use Rattle.ln_poly.proofs.times.merged.Given as goal

abbrev pub invariant-pairs : goal.invariant-pairs
invariant-pairs l = IsMerged l.out l.a l.b l.i l.j

abbrev pub decreases-pairs : goal.decreases-pairs
decreases-pairs l = (length l.a - l.i) + (length l.b - l.j)
