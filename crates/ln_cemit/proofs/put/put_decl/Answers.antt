-- Answers to the goals of `put_decl` in src/put.rt.
use Rattle.ln_base.proofs.Texts.Putting.{puts_last, puts_then}
use Rattle.ln_cemit.proofs.put.put_decl.Goals as goal

pub returns : goal.returns
returns c = puts_last c.put.result _ _ (puts_then c.in_ok-put_decl_head.ensures c.in_ok-put_side.ensures) c.put.ensures
