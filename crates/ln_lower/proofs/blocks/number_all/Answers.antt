use Rattle.std.proofs.Common.{take, map}
use Rattle.ln_bound.specs.View.{typed}
use Rattle.ln_lower.proofs.Subtrees.Numbering.{next_stands}
use Rattle.ln_lower.proofs.Operations.Writes.{more_typed}
use Rattle.ln_lower.proofs.blocks.number_all.Goals as goal

pub trees-preserved : goal.trees-preserved
trees-preserved c =
    let m = more_typed c.args.trees.now c.trees.t-index c.t-item.result c.trees-test.true c.t-item.is in
    rw c.place.ensures (next_stands _ _ _ _ (map typed (take c.trees.t-index c.args.trees.now)) _ c.in_ok-k.k
    (typed c.t-item.result) m c.in_ok-push.ensures.ok c.in_ok-k.ensures c.trees.invariant)
