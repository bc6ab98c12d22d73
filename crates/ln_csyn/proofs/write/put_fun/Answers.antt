-- Answers to the goals of `put_fun` in src/write.rt.
use Rattle.ln_base.proofs.Texts.Putting.{puts_last, puts_then}
use Rattle.ln_csyn.proofs.write.put_fun.Goals as goal

pub returns : goal.returns
returns c = puts_last c.put_fun_body.result _ _ (puts_then c.in_ok-put_static.ensures (puts_then c.in_ok-put_type.ensures
    (puts_then c.in_ok-put_own_name.ensures (puts_then c.in_ok-put.ensures (puts_then c.in_ok-put_parameters.ensures c.in_ok-put-2.ensures)))))
    c.put_fun_body.ensures
