use Rattle.ln_graded.proofs.Answering.{one-list}
use Rattle.ln_graded.proofs.laws.graded_lists_are_one.Goals as goal

pub returns : goal.returns
returns c = one-list
