-- What the search leaves open in `exact_trees_are_sound`.
use Rattle.ln_bound.proofs.Soundness.ExactLaws.{exact_range, exact_nodes}
use Rattle.ln_bound.proofs.sound.exact_trees_are_sound.Goals as goal

pub returns-clause-range : goal.returns-clause-range
returns-clause-range c = exact_range

pub returns-clause-nodes : goal.returns-clause-nodes
returns-clause-nodes c = exact_nodes
