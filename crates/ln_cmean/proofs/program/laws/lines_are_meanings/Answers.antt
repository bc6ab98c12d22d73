use Rattle.ln_cmean.proofs.Carrying.LineLaws.{as_many, line_said}
use Rattle.ln_cmean.proofs.program.laws.lines_are_meanings.Goals as goal

pub returns-clause-lines : goal.returns-clause-lines
returns-clause-lines c = line_said

pub returns-clause-number : goal.returns-clause-number
returns-clause-number c = as_many
