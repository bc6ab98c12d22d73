-- Answers to the goals of `put_one_head` in src/body.rt.
use Rattle.ln_base.proofs.Texts.Putting.{puts_last, puts_then}
use Rattle.ln_cemit.proofs.body.put_one_head.Goals as goal

pub returns : goal.returns
returns c = puts_last c.put_tokens-2.result _ _ (puts_then c.in_ok-put_tokens.ensures c.in_ok-put.ensures) c.put_tokens-2.ensures
