use Rattle.std.proofs.Common.{unsigned_abs}
use Rattle.ln_poly.specs.Weight.{IsWeighed, grown}
use Rattle.ln_poly.proofs.weights.weight_of_term.Given as goal

abbrev pub invariant-pairs : goal.invariant-pairs
invariant-pairs l = IsWeighed l.w (unsigned_abs l.t.1) (grown l.more l.vars) l.t.0 l.p-index
