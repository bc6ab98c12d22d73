-- Answers to the goals of `one_answer` in src/laws.rt.
use Rattle.ln_verify.proofs.Validity.One.{one-answer}
use Rattle.ln_verify.proofs.laws.one_answer.Goals as goal

pub returns : goal.returns
returns c = one-answer
