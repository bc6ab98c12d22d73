use Rattle.ln_stage.proofs.Monomials.LawLemmas.{lists-of-trees}
use Rattle.ln_stage.proofs.laws.lists_are_those_of_trees.Goals as goal

pub returns : goal.returns
returns c = lists-of-trees
