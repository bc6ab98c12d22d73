-- States the invariant of the loop of `cases_of`: each predicate so far has its case, in order.
use Rattle.ln_verify.proofs.Judging.Subjects.{Made}
use Rattle.ln_verify.proofs.listings.cases_of.Given as goal

abbrev pub invariant-each : goal.invariant-each
invariant-each l = Made l.preds l.i l.cases.items
