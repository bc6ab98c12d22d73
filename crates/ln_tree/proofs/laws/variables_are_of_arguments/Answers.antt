use Rattle.ln_tree.proofs.LaidLemmas.{variables-of-arguments}
use Rattle.ln_tree.proofs.laws.variables_are_of_arguments.Goals as goal

pub returns : goal.returns
returns c = variables-of-arguments
