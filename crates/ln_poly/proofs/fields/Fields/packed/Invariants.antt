use Rattle.ln_poly.proofs.Packing.Fields.{IsPacking}
use Rattle.ln_poly.proofs.fields.Fields.packed.Given as goal

abbrev pub invariant-pairs : goal.invariant-pairs
invariant-pairs g l = IsPacking l.self.shifts l.pairs l.p-index l.n
