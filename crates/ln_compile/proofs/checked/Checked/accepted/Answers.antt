use Rattle.std.proofs.Common.{ap, arith, length}
use Rattle.ln_compile.proofs.checked.Checked.accepted.Goals as goal

pub among-requires-clause-bases : goal.among-requires-clause-bases
among-requires-clause-bases c = rw (c.as_slice.ensures, c.as_slice-2.ensures) c.self.invariant

pub among-requires-clause-within : goal.among-requires-clause-within
among-requires-clause-within c = rw c.as_slice.ensures (omega (arith, ap (λ v. length v.table.preds) c.self.view_is, c.requires))

pub returns-clause-pred : goal.returns-clause-pred
returns-clause-pred c = rw (← c.self.view_is) (rw c.as_slice.ensures at c.among.ensures.pred)
