use Rattle.ln_algebra.proofs.Vectors.Splits.{splits-all}
use Rattle.ln_algebra.proofs.splitting.splits_are_all_sums.Goals as goal

pub returns : goal.returns
returns c = splits-all
