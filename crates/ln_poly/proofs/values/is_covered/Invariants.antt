use Rattle.ln_poly.proofs.Evaluations.Parts.{Pass}
use Rattle.ln_poly.proofs.values.is_covered.Given as goal

abbrev pub invariant-pairs : goal.invariant-pairs
invariant-pairs l = Pass l.pairs l.a l.q-index
