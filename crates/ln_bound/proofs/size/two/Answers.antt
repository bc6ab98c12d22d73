-- What the search leaves open in `two`.
use Rattle.std.proofs.Common.{ap}
use Rattle.ln_bound.specs.declared.fitted.Two.TheVariants.{Plus, Minus, Times}
use Rattle.ln_interval.specs.View.{range}
use Rattle.ln_bound.specs.View.{typed}
use Rattle.ln_bound.proofs.Trees.Views.{two_made}
use Rattle.ln_bound.proofs.size.two.Goals as goal

pub returns-in-Plus : goal.returns-in-Plus
returns-in-Plus c = two_made c.args.kind c.args.x c.args.y (range c.pair_of-pair.result) c.wider-width.result c.wider.result c.least_for.result Plus
    (typed c.in_ok-x.x.value) (typed c.in_ok-y.y.value) c.in-Plus.is (ap typed c.in_ok-x.ensures.ok) (ap typed c.in_ok-y.ensures.ok)
    c.pair_of-pair.ensures c.wider-width.ensures c.wider.ensures c.least_for.ensures

pub returns-in-Minus : goal.returns-in-Minus
returns-in-Minus c = two_made c.args.kind c.args.x c.args.y (range c.pair_of-pair.result) c.wider-width.result c.wider.result c.least_for.result Minus
    (typed c.in_ok-x.x.value) (typed c.in_ok-y.y.value) c.in-Minus.is (ap typed c.in_ok-x.ensures.ok) (ap typed c.in_ok-y.ensures.ok)
    c.pair_of-pair.ensures c.wider-width.ensures c.wider.ensures c.least_for.ensures

pub returns-in-Times : goal.returns-in-Times
returns-in-Times c = two_made c.args.kind c.args.x c.args.y (range c.pair_of-pair.result) c.wider-width.result c.wider.result c.least_for.result Times
    (typed c.in_ok-x.x.value) (typed c.in_ok-y.y.value) c.in-Times.is (ap typed c.in_ok-x.ensures.ok) (ap typed c.in_ok-y.ensures.ok)
    c.pair_of-pair.ensures c.wider-width.ensures c.wider.ensures c.least_for.ensures
