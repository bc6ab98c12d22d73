use Rattle.ln_order.proofs.Signs.RowSigns.{row_first-unique, row_sign-unique}
use Rattle.ln_order.proofs.rows.row_sign_is_unique.Goals as goal

pub returns-clause-vector : goal.returns-clause-vector
returns-clause-vector c = row_first-unique

pub returns-clause-sign : goal.returns-clause-sign
returns-clause-sign c = row_sign-unique
