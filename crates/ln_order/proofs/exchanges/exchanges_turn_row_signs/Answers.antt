use Rattle.ln_order.proofs.Exchanging.RowSigns.{sign-along-steps}
use Rattle.ln_order.proofs.Exchanging.RowSigns.{exchanged-row}
use Rattle.ln_order.proofs.exchanges.exchanges_turn_row_signs.Goals as goal

pub returns-clause-two : goal.returns-clause-two
returns-clause-two c = exchanged-row

pub returns-clause-all : goal.returns-clause-all
returns-clause-all c = sign-along-steps
