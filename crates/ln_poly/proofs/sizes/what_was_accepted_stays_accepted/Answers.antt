use Rattle.ln_bound.proofs.Measures.LoadLaws.{old_nodes}
use Rattle.ln_poly.proofs.Loads.Sizing.{light-root}
use Rattle.ln_poly.proofs.sizes.what_was_accepted_stays_accepted.Goals as goal

pub returns-clause-nodes : goal.returns-clause-nodes
returns-clause-nodes c = old_nodes

pub returns-clause-root : goal.returns-clause-root
returns-clause-root c = light-root
