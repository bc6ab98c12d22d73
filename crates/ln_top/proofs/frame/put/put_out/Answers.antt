use Rattle.std.proofs.Common.{refl}
use Rattle.ln_top.proofs.FrameLemmas.Carry.{out_cut}
use Rattle.ln_top.proofs.frame.put.put_out.Goals as goal

pub returns-in-Err : goal.returns-in-Err
returns-in-Err g c = out_cut _ _ _ _ refl c.in-Err.ensures.err c.in-Err.ensures.step
