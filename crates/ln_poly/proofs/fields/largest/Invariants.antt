use Rattle.ln_poly.proofs.Packing.Fields.{IsLargest}
use Rattle.ln_poly.proofs.fields.largest.Given as goal

abbrev pub invariant-terms : goal.invariant-terms
invariant-terms l = IsLargest l.tops l.f l.t-index
