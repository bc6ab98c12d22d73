use Rattle.ln_top.proofs.JudgesLemmas.EdgesLaws.{stop_carried}
use Rattle.ln_top.proofs.judges.edges.work.Goals as goal

pub returns-in-Err : goal.returns-in-Err
returns-in-Err g c = λ given s. stop_carried given _ _ _ _ _ (c.in-Err.ensures.err given s) c.say.ensures
