use Rattle.ln_tree.specs.Formula.{formula, node_count}
use Rattle.ln_poly.proofs.expansion.+expand.Given as goal

abbrev pub decreases-expand : goal.decreases-expand
decreases-expand l = node_count (formula l.e.now)
