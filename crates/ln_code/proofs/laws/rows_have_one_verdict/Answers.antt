use Rattle.ln_code.proofs.Verdicts.Machine.{rows-have, verdict-unique}
use Rattle.ln_code.proofs.laws.rows_have_one_verdict.Goals as goal

pub returns-clause-exists : goal.returns-clause-exists
returns-clause-exists c = rows-have

pub returns-clause-unique : goal.returns-clause-unique
returns-clause-unique c = verdict-unique
