-- Answers to the goals of `put_answer` in src/body.rt.
use Rattle.ln_base.proofs.Texts.Putting.{puts_last, puts_then}
use Rattle.ln_cemit.proofs.body.put_answer.Goals as goal

pub returns : goal.returns
returns c = puts_last c.put-2.result _ _ (puts_then c.in_ok-put.ensures c.in_ok-put_sign_expr.ensures) c.put-2.ensures
