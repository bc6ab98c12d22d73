use Rattle.ln_top.proofs.FrameLemmas.Carry.{line_cut}
use Rattle.ln_top.proofs.frame.stop.put_line.Goals as goal

pub returns-in-Err : goal.returns-in-Err
returns-in-Err g c = line_cut _ _ _ _ _ c.requires.line c.requires.some c.in-Err.ensures.err c.in-Err.ensures.step
