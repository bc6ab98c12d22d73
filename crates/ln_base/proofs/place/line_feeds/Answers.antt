use Rattle.std.proofs.Common.{◌==◌, arith}
use Rattle.ln_base.proofs.Counting.{counted_more, counted_fits}
use Rattle.ln_base.proofs.place.line_feeds.Goals as goal

pub overflow_add-n : goal.overflow_add-n
overflow_add-n c =
    omega (arith, counted_fits (λ b. b == 10) c.args.bytes.now c.each.b-index c.each.n c.from-n.result 0 c.each-test.true c.each.invariant c.from-n.ensures)

pub each-preserved : goal.each-preserved
each-preserved c = counted_more (λ b. b == 10) c.args.bytes.now c.each.b-index c.each.n c.from-n.result 0 c.each-test.true c.each.invariant c.from-n.ensures
