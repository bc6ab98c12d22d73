-- Answers to the goals of `slot_at` in src/put.rt.
use Rattle.std.proofs.Common.{arith}
use Rattle.ln_cemit.proofs.Writing.Loops.{local_is}
use Rattle.ln_cemit.proofs.put.slot_at.Goals as goal

pub returns : goal.returns
returns c = local_is _ c.args.locals.now c.from.result c.args.j c.from.ensures (omega (arith, c.requires, c.from.ensures))
