use Rattle.ln_code.proofs.Following.NodeLists.{nodes-are-listed}
use Rattle.ln_code.proofs.laws.nodes_are_listed.Goals as goal

pub returns : goal.returns
returns c = nodes-are-listed
