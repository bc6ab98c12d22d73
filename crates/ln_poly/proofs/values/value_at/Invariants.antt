use Rattle.ln_tree.specs.Row.{values}
use Rattle.ln_poly.proofs.Evaluations.Summing.{IsSummed}
use Rattle.ln_poly.proofs.values.value_at.Given as goal

abbrev pub invariant-terms : goal.invariant-terms
invariant-terms l = IsSummed l.s.vars (values l.row) l.a l.terms l.sum l.t-index
