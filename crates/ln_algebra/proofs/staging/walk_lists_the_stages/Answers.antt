use Rattle.ln_algebra.proofs.Walking.Stages.{walk-stages}
use Rattle.ln_algebra.proofs.staging.walk_lists_the_stages.Goals as goal

pub returns : goal.returns
returns c = walk-stages
