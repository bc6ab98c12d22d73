-- Answers to the goals of `put_sign_expr` in src/body.rt.
use Rattle.ln_base.proofs.Texts.Putting.{puts_last, puts_then}
use Rattle.ln_cemit.proofs.body.put_sign_expr.Goals as goal

pub returns : goal.returns
returns c = puts_last c.put-2.result _ _
    (puts_then c.in_ok-put.ensures (puts_then c.in_ok-put_above.ensures (puts_then c.in_ok-put_op.ensures c.in_ok-put_below.ensures))) c.put-2.ensures
