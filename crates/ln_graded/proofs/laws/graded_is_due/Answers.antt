use Rattle.ln_graded.proofs.Answering.{graded-due}
use Rattle.ln_graded.proofs.laws.graded_is_due.Goals as goal

pub returns : goal.returns
returns c = graded-due
