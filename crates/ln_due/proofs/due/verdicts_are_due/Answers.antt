use Rattle.ln_due.proofs.Verdicts.Composition.{signs-perturbed, verdicts-due}
use Rattle.ln_due.proofs.due.verdicts_are_due.Goals as goal

pub returns-clause-verdicts : goal.returns-clause-verdicts
returns-clause-verdicts c = verdicts-due

pub returns-clause-signs : goal.returns-clause-signs
returns-clause-signs c = signs-perturbed
