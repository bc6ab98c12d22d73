use Rattle.ln_compile.proofs.Listing.FilteredLemmas.{one_due_in, parts_answer, programs_answer}
use Rattle.ln_compile.proofs.due.programs_answer_due.Goals as goal

pub returns-clause-due : goal.returns-clause-due
returns-clause-due c = programs_answer

pub returns-clause-parts : goal.returns-clause-parts
returns-clause-parts c = parts_answer

pub returns-clause-one : goal.returns-clause-one
returns-clause-one c = one_due_in
