use Rattle.ln_order.proofs.Signs.RowSigns.{row-stages}
use Rattle.ln_order.proofs.rows.stages_are_those_of_rows.Goals as goal

pub returns : goal.returns
returns c = row-stages
