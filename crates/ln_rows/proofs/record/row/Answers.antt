use Rattle.std.proofs.Common.{length}
use Rattle.ln_rows.proofs.Fields.RowLemmas.{zero_past}
use Rattle.ln_rows.proofs.record.row.Goals as goal

pub returns-clause-past : goal.returns-clause-past
returns-clause-past c = c.fill_row.ensures.past (zero_past c.args.p.now.shape.sites (length c.args.p.now.shape.vars) _ c.no_numbers-row.ensures)
