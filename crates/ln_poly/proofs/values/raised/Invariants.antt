use Rattle.ln_poly.proofs.Evaluations.Room.{IsRaised}
use Rattle.ln_poly.proofs.values.raised.Given as goal

abbrev pub invariant-factors : goal.invariant-factors
invariant-factors l = IsRaised l.z l.product l.x l.n l._k
