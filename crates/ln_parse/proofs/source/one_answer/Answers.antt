use Rattle.ln_parse.proofs.Settling.Either.{either}
use Rattle.ln_parse.proofs.Settling.OneAnswer.{one_table, one_fault, no_fault}
use Rattle.ln_parse.proofs.source.one_answer.Goals as goal

pub returns-clause-table : goal.returns-clause-table
returns-clause-table c = one_table

pub returns-clause-fault : goal.returns-clause-fault
returns-clause-fault c bytes e f a b = one_fault bytes a b

pub returns-clause-not_both : goal.returns-clause-not_both
returns-clause-not_both c bytes t e a b = no_fault bytes t a b

pub returns-clause-either : goal.returns-clause-either
returns-clause-either c = either
