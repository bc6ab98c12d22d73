-- Answers to the goals of `put_guards` in src/walk.rt.
use Rattle.std.proofs.Common.{arith}
use Rattle.ln_cemit.proofs.Writing.Gathers.{guards_all, guards_more}
use Rattle.ln_cemit.proofs.walk.put_guards.Goals as goal

pub others-preserved : goal.others-preserved
others-preserved c = guards_more c.args.i c.args.others.now c.others.j-index _ c.others-test.true c.others.invariant c.in_ok-put_guard.ensures

pub returns : goal.returns
returns c = guards_all c.args.i c.args.others.now c.others.j-index (omega arith) c.others.invariant
