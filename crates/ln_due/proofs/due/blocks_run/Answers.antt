use Rattle.ln_due.proofs.Verdicts.Composition.{blocks-run}
use Rattle.ln_due.proofs.due.blocks_run.Goals as goal

pub returns : goal.returns
returns c = blocks-run
