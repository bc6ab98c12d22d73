use Rattle.ln_bound.proofs.Measures.LoadLaws.{old_nodes}
use Rattle.ln_bound.proofs.ranges.light_nodes_stay_light.Goals as goal

pub returns : goal.returns
returns c = old_nodes
