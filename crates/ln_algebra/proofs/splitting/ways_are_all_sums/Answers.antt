use Rattle.ln_algebra.proofs.Vectors.Ways.{ways-all}
use Rattle.ln_algebra.proofs.splitting.ways_are_all_sums.Goals as goal

pub returns : goal.returns
returns c = ways-all
