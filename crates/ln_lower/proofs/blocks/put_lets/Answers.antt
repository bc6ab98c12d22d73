use Rattle.std.proofs.Common.{take, map, arith}
use Rattle.ln_bound.specs.View.{typed}
use Rattle.ln_lower.proofs.Subtrees.Numbering.{stand_length}
use Rattle.ln_lower.proofs.Operations.Writes.{next_let, more_typed, typed_length}
use Rattle.ln_lower.proofs.blocks.put_lets.Goals as goal

pub lets-preserved : goal.lets-preserved
lets-preserved c =
    next_let _ _ _ (map typed (take c.lets.j c.args.lets.now)) _
    (typed c.index-lets-j.result) c.lets.j (typed_length c.args.lets.now c.lets.j c.lets-test.true)
    (more_typed c.args.lets.now c.lets.j c.index-lets-j.result c.lets-test.true c.index-lets-j.is) c.lets.invariant c.in_ok-put_let.ensures

pub bounds-numbers-j : goal.bounds-numbers-j
bounds-numbers-j c =
    let e = stand_length c.args.distinct.now.keys c.args.numbers.now c.args.lets.now c.requires.stand in
    let t = c.lets-test.true in
    omega (arith, t, e)
