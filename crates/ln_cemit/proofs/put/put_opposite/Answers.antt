-- Answers to the goals of `put_opposite` in src/put.rt.
use Rattle.ln_base.proofs.Texts.Putting.{puts_last, puts_then}
use Rattle.ln_cemit.proofs.put.put_opposite.Goals as goal

pub returns : goal.returns
returns c = puts_last c.put.result _ _ (puts_then c.in_ok-put_tokens.ensures c.in_ok-put_operand.ensures) c.put.ensures
