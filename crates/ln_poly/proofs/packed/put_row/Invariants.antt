use Rattle.ln_poly.proofs.Packing.Loops.{IsRowPut}
use Rattle.ln_poly.proofs.packed.put_row.Given as goal

abbrev pub invariant-terms : goal.invariant-terms
invariant-terms g l = IsRowPut l.initial.out l.out l.s l.g l.i
