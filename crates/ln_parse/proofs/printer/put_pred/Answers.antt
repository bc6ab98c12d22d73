use Rattle.ln_base.proofs.Texts.Putting.{puts_last, puts_then}
use Rattle.ln_parse.proofs.printer.put_pred.Goals as goal

pub returns : goal.returns
returns c = puts_last c.put_root.result _ _ (puts_then c.in_ok-put_tokens.ensures (puts_then c.in_ok-put_name.ensures
    (puts_then c.in_ok-put_tokens-2.ensures (puts_then (simp c.as_slice.ensures at c.in_ok-put_args.ensures)
    (puts_then c.in_ok-put_tokens-3.ensures c.in_ok-put_lets.ensures))))) c.put_root.ensures
