use Rattle.ln_code.proofs.OneOrder.{decided}
use Rattle.ln_code.proofs.program.Program.in_one_order.Goals as goal

pub returns-clause-decides : goal.returns-clause-decides
returns-clause-decides c = decided c.reduced.result _ c.reduced.ensures.is c.reduced.ensures.kept
