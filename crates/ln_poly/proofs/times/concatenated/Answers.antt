use Rattle.std.proofs.Common.{arith}
use Rattle.ln_tree.proofs.Powers.{small-at}
use Rattle.ln_poly.proofs.Sorting.Concatenated.{concatenated-above}
use Rattle.ln_poly.proofs.Sorting.Merging.{positive-at}
use Rattle.ln_poly.proofs.times.concatenated.Goals as goal

pub push-requires-clause-above : goal.push-requires-clause-above
push-requires-clause-above c =
    concatenated-above _ c.args.a.now c.args.b.now c.pairs.p-index c.pairs.invariant c.requires.low c.requires.rising (omega (arith, c.pairs-test.true))

pub push-requires-clause-positive : goal.push-requires-clause-positive
push-requires-clause-positive c = positive-at _ _ c.requires.rising (omega (arith, c.pairs-test.true))

pub push-requires-clause-small : goal.push-requires-clause-small
push-requires-clause-small c = small-at _ _ c.requires.rising (omega (arith, c.pairs-test.true))
