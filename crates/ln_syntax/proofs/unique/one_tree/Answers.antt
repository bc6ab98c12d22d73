use Rattle.ln_syntax.proofs.Spellings.OneTree.{one_tree}
use Rattle.ln_syntax.proofs.unique.one_tree.Goals as goal

pub returns-clause-end : goal.returns-clause-end
returns-clause-end c = λ ts i j k e f d s g t. (one_tree d s g t).place

pub returns-clause-tree : goal.returns-clause-tree
returns-clause-tree c = λ ts i j k e f d s g t. (one_tree d s g t).tree
