use Rattle.std.proofs.Common.{rules, arith, ◌≡◌, ◌≤◌, ◌-◌, length, take, length-take-le}
use Rattle.std.specs.Prelude.{Ok}
use Rattle.ln_disk.proofs.FlowLemmas.{passes_more}
use Rattle.ln_disk.proofs.files.skip.Goals as goal

pub loop-done-preserved : goal.loop-done-preserved
loop-done-preserved g c =
    let ended : c.read_once.result.count ≡ Ok c.in_ok-n.n = search rules in
    let within : c.in_ok-n.n ≤ length c.read_once.new.buf = search rules in
    let most : c.in_ok-n.n ≤ c.args.count - c.loop-done.done = search rules in (
      omega (arith, most, c.loop-done.invariant.0, c.loop-done-test.true),
      passes_more _ _ _ (take c.in_ok-n.n c.read_once.new.buf) _ _ (length-take-le _ _ within) c.loop-done.invariant.1
          (rw ended at c.read_once.ensures.bytes),
    )
