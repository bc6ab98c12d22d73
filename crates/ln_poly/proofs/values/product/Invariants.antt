use Rattle.ln_tree.specs.Row.{values}
use Rattle.ln_poly.proofs.Evaluations.Summing.{IsProduct}
use Rattle.ln_poly.proofs.values.product.Given as goal

abbrev pub invariant-pairs : goal.invariant-pairs
invariant-pairs l = IsProduct l.s.vars (values l.row) l.a l.pairs l.t.1 l.z l.p-index
