use Rattle.ln_order.proofs.Signs.RowSigns.{orders-differ, rows-differ}
use Rattle.ln_order.proofs.rows.sites_differ.Goals as goal

pub returns-clause-orders : goal.returns-clause-orders
returns-clause-orders c = orders-differ

pub returns-clause-rows : goal.returns-clause-rows
returns-clause-rows c = rows-differ
