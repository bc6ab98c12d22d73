-- Answers to the goals of `put_decl_head` in src/put.rt.
use Rattle.ln_base.proofs.Texts.Putting.{puts_last, puts_then}
use Rattle.ln_cemit.proofs.put.put_decl_head.Goals as goal

pub returns : goal.returns
returns c = puts_last c.put.result _ _ (puts_then c.in_ok-put_width.ensures c.in_ok-put_decl_name.ensures) c.put.ensures
