use Rattle.ln_poly.proofs.TermLists.Products.{copies-more, copies-end}
use Rattle.ln_poly.proofs.arithmetic.put_all.Goals as goal

pub loop-t-preserved : goal.loop-t-preserved
loop-t-preserved c =
    copies-more c.args.out.now.items _ _ c.args.f.now c.loop-t.t-index c.t-item.result c.loop-t-test.true c.t-item.is c.loop-t.invariant c.in_ok-push.ensures

pub returns : goal.returns
returns c = copies-end c.args.out.now.items _ c.args.f.now c.loop-t.t-index c.loop-t-test.false c.loop-t.invariant
