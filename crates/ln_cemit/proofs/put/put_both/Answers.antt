-- Answers to the goals of `put_both` in src/put.rt.
use Rattle.ln_base.proofs.Texts.Putting.{puts_last, puts_then}
use Rattle.ln_cemit.proofs.put.put_both.Goals as goal

pub returns : goal.returns
returns c = puts_last c.put-2.result _ _
    (puts_then c.in_ok-put.ensures (puts_then c.in_ok-put_operand.ensures (puts_then c.in_ok-put_op.ensures c.in_ok-put_operand-2.ensures))) c.put-2.ensures
