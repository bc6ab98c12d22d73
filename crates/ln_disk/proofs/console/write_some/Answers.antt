use Rattle.std.proofs.Common.{arith, length-drop}
use Rattle.ln_disk.proofs.FlowLemmas.{writes_more}
use Rattle.ln_disk.proofs.TriesLemmas.{taken_within, taken_written}
use Rattle.ln_disk.proofs.console.write_some.Goals as goal

pub loop-done-preserved : goal.loop-done-preserved
loop-done-preserved g c = (
  omega (arith, length-drop c.loop-done.done c.args.bytes.now, taken_within _ _ _ c.write_once.ensures.bound c.taken-n.ensures, c.loop-done.invariant.0),
  writes_more _ _ _ _ _ _ c.loop-done.invariant.1 (taken_written _ _ _ _ _ c.write_once.ensures.bytes c.taken-n.ensures),
)
