use Rattle.ln_bound.specs.Typed.{cost}
use Rattle.ln_bound.specs.View.{typed}
use Rattle.ln_lower.proofs.distinct.+number.Given as goal

abbrev pub decreases-number : goal.decreases-number
decreases-number l = cost (typed l.t.now)
