use Rattle.ln_due.proofs.Verdicts.PlainLemmas.{plain-decides, zeros-value}
use Rattle.ln_due.proofs.due.plain_values_decide.Goals as goal

pub returns-clause-zeros : goal.returns-clause-zeros
returns-clause-zeros c = zeros-value

pub returns-clause-due : goal.returns-clause-due
returns-clause-due c = plain-decides
