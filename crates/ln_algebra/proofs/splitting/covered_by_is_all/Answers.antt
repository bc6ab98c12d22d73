use Rattle.ln_algebra.proofs.Vectors.Covering.{covered_by-once}
use Rattle.ln_algebra.proofs.splitting.covered_by_is_all.Goals as goal

pub returns : goal.returns
returns c = covered_by-once
