use Rattle.ln_tree.specs.Formula.{formula, node_count}
use Rattle.ln_bound.proofs.size.+fit.Given as goal

abbrev pub decreases-fit : goal.decreases-fit
decreases-fit l = node_count (formula l.e.now)
