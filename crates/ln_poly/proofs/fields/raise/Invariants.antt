use Rattle.ln_poly.proofs.Packing.Fields.{IsRaised}
use Rattle.ln_poly.proofs.fields.raise.Given as goal

abbrev pub invariant-pairs : goal.invariant-pairs
invariant-pairs l = IsRaised l.tops l.initial.tops l.pairs l.p-index
