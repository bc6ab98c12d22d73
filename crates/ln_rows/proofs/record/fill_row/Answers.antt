use Rattle.std.proofs.Common.{length}
use Rattle.ln_rows.proofs.Fields.RowLemmas.{zero_stays}
use Rattle.ln_rows.proofs.record.fill_row.Goals as goal

pub returns-clause-past : goal.returns-clause-past
returns-clause-past c = λ z. zero_stays c.args.p.now.shape.sites (length c.args.p.now.shape.vars) _ _ (rw c.as_slice.ensures at c.row_over.ensures.past) z
