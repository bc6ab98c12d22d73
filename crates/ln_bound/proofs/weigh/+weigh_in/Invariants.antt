use Rattle.ln_tree.specs.Formula.{formula, node_count}
use Rattle.ln_bound.proofs.weigh.+weigh_in.Given as goal

abbrev pub decreases-weigh_in : goal.decreases-weigh_in
decreases-weigh_in l = node_count (formula l.e.now)
