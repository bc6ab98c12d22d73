-- The remaining goals of `spread`.
use Rattle.std.proofs.Common.{arith}
use Rattle.ln_poly.specs.Sums.{begun}
use Rattle.ln_poly.proofs.Sorting.Summing.{spread-end, spread-next, spread-room}
use Rattle.ln_poly.proofs.sums.spread.Goals as goal

pub loop-t-init : goal.loop-t-init
loop-t-init c = rw c.new-more.ensures.items begun

pub put_in-requires : goal.put_in-requires
put_in-requires c = spread-room _ c.args.g.now _ _ c.loop-t.t-index _ _ c.loop-t.invariant (omega arith) c.t-item.is c.requires

pub loop-t-preserved : goal.loop-t-preserved
loop-t-preserved c = spread-next _ c.args.g.now _ _ _ _ c.loop-t.t-index _ c.loop-t.invariant (omega arith) c.t-item.is c.in_ok-at.ensures

pub returns : goal.returns
returns c = spread-end _ c.args.g.now _ _ c.loop-t.t-index (omega arith) c.loop-t.invariant
