use Rattle.std.proofs.Common.{ap}
use Rattle.ln_interval.specs.View.{range}
use Rattle.ln_bound.specs.View.{typed}
use Rattle.ln_bound.proofs.Trees.Views.{opposite_made}
use Rattle.ln_bound.proofs.size.negated.Goals as goal

pub returns : goal.returns
returns c = opposite_made c.args.x (typed c.in_ok-x.x.value) (range c.neg-pair.result) c.wider-width.result c.least_for.result
    (ap typed c.in_ok-x.ensures.ok) c.neg-pair.ensures c.wider-width.ensures c.least_for.ensures
