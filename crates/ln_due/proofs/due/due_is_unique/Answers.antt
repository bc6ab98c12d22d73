use Rattle.ln_due.proofs.Verdicts.UniqueLemmas.{due-unique}
use Rattle.ln_due.proofs.due.due_is_unique.Goals as goal

pub returns : goal.returns
returns c = due-unique
