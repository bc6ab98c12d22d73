use Rattle.ln_bound.specs.Typed.{cost}
use Rattle.ln_bound.specs.View.{typed}
use Rattle.ln_code.proofs.walk.+put_tree.Given as goal

abbrev pub decreases-put_tree : goal.decreases-put_tree
decreases-put_tree g l = cost (typed l.t.now)
