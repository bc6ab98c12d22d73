use Rattle.ln_due.proofs.Verdicts.StepLemmas.{verdicts-are-told}
use Rattle.ln_due.proofs.steps.verdicts_are_told.Goals as goal

pub returns : goal.returns
returns c = verdicts-are-told
