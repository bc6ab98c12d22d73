use Rattle.ln_order.proofs.Exchanging.Shifted.{alike-shifted}
use Rattle.ln_order.proofs.Exchanging.Shifts.{shifts-alike}
use Rattle.ln_order.proofs.exchanges.neighbours_of_one_type.Goals as goal

pub returns-clause-shifted : goal.returns-clause-shifted
returns-clause-shifted c = shifts-alike

pub returns-clause-only : goal.returns-clause-only
returns-clause-only c = alike-shifted
