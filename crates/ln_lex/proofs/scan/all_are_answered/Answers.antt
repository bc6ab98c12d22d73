use Rattle.ln_lex.proofs.HasAnswer.{has_answer}
use Rattle.ln_lex.proofs.scan.all_are_answered.Goals as goal

pub returns : goal.returns
returns c = has_answer
