use Rattle.std.proofs.Common.{arith}
use Rattle.ln_poly.proofs.Sorting.Merging.{lowest-above, merged-all, merged-step, sum-small, sum-some}
use Rattle.ln_poly.proofs.times.merged.Goals as goal

pub push-requires-clause-small : goal.push-requires-clause-small
push-requires-clause-small c = sum-small _ _ _ _ _ _ c.pairs.invariant c.lowest-v.ensures _ _ _ _
    c.passed-d.ensures c.passed-e.ensures (c.requires.small c.lowest-v.result)

pub overflow_add-d : goal.overflow_add-d
overflow_add-d c = omega (
  arith,
  sum-small _ _ _ _ _ _ c.pairs.invariant c.lowest-v.ensures _ _ _ _
      c.passed-d.ensures c.passed-e.ensures (c.requires.small c.lowest-v.result),
)

pub pairs-preserved : goal.pairs-preserved
pairs-preserved c = rw c.in_ok-push.ensures.ok
    (merged-step _ _ _ _ _ _ c.pairs.invariant c.lowest-v.ensures _ _ _ _ c.passed-d.ensures c.passed-e.ensures)
