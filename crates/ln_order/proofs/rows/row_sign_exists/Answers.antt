use Rattle.ln_order.proofs.Signs.RowSigns.{row_sign-exists}
use Rattle.ln_order.proofs.rows.row_sign_exists.Goals as goal

pub returns : goal.returns
returns c = row_sign-exists
