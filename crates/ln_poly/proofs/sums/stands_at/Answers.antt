-- The remaining goals of `stands_at`.
use Rattle.ln_poly.proofs.Sorting.Summing.{stands-same}
use Rattle.ln_poly.proofs.sums.stands_at.Goals as goal

pub returns-then-at-f-clause-same : goal.returns-then-at-f-clause-same
returns-then-at-f-clause-same c = stands-same c.args.f.now c.args.at c.index-f-at.result c.args.t.now c.eq.result c.if-at-f.true c.eq.ensures
