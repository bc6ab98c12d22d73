use Rattle.ln_top.proofs.SignsLemmas.WatchingLaws.{put_on, show_cut}
use Rattle.ln_top.proofs.signs.watching.show.Goals as goal

pub returns-in-Ok-clause-wrote : goal.returns-in-Ok-clause-wrote
returns-in-Ok-clause-wrote g c = put_on c.args.port _ _ _ _ c.in-Ok.ensures.fine c.in-Ok.ensures.puts

pub returns-in-Err-clause-wrote : goal.returns-in-Err-clause-wrote
returns-in-Err-clause-wrote g c = show_cut _ _ _ _ c.args.port _ _ _ c.in-Err.ensures.step c.in-Err.ensures.stops
