use Rattle.ln_poly.proofs.Expansions.Existing.{root-normal, tree-normal}
use Rattle.ln_poly.proofs.sizes.normal_polynomial_exists.Goals as goal

pub returns-clause-tree : goal.returns-clause-tree
returns-clause-tree c = tree-normal

pub returns-clause-root : goal.returns-clause-root
returns-clause-root c = root-normal
