-- Answers to the goals of `put_fun` in src/body.rt.
use Rattle.ln_base.proofs.Texts.Putting.{puts_last, puts_then}
use Rattle.ln_cemit.proofs.body.put_fun.Goals as goal

pub returns : goal.returns
returns c = puts_last c.put-2.result _ _
    (puts_then c.in_ok-put_one_head.ensures (puts_then c.in_ok-put.ensures c.in_ok-put_body.ensures)) c.put-2.ensures
