use Rattle.ln_names.specs.Visits.{coord_visits}
use Rattle.ln_names.proofs.Walking.{Left}
use Rattle.ln_names.proofs.walk.coords_fault.Given as goal

abbrev pub invariant-loop-i : goal.invariant-loop-i
invariant-loop-i l = Left l.bytes coord_visits l.coords l.i
