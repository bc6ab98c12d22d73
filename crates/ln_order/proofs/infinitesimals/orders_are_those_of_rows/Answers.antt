use Rattle.ln_order.proofs.Signs.RowsLemmas.{orders-rows}
use Rattle.ln_order.proofs.infinitesimals.orders_are_those_of_rows.Goals as goal

pub returns : goal.returns
returns c = orders-rows
