use Rattle.ln_bound.specs.Typed.{cost}
use Rattle.ln_bound.specs.View.{typed}
use Rattle.ln_filter.proofs.arithmetic.+tried.Given as goal

abbrev pub decreases-tried : goal.decreases-tried
decreases-tried l = cost (typed l.t.now)
