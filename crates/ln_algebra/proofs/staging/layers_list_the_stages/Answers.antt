use Rattle.ln_algebra.proofs.Walking.GradedStages.{layers-stages}
use Rattle.ln_algebra.proofs.Walking.Layers.{walk-none}
use Rattle.ln_algebra.proofs.staging.layers_list_the_stages.Goals as goal

pub returns-clause-stages : goal.returns-clause-stages
returns-clause-stages c = layers-stages

pub returns-clause-reach : goal.returns-clause-reach
returns-clause-reach c = walk-none
