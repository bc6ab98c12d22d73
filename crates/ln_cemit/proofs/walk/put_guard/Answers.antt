-- Answers to the goals of `put_guard` in src/walk.rt.
use Rattle.ln_base.proofs.Texts.Putting.{puts_last, puts_then}
use Rattle.ln_cemit.proofs.walk.put_guard.Goals as goal

pub returns : goal.returns
returns c = puts_last c.put_tokens-2.result _ _ (puts_then c.in_ok-put_tokens.ensures
    (puts_then c.in_ok-put_index_at.ensures (puts_then c.in_ok-put_op.ensures c.in_ok-put_index_at-2.ensures))) c.put_tokens-2.ensures
