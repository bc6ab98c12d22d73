use Rattle.ln_top.proofs.Steps.OneAnswer.{one_answer}
use Rattle.ln_top.proofs.laws.one_answer.Goals as goal

pub returns : goal.returns
returns c = one_answer
