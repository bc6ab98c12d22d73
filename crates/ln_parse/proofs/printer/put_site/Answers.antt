use Rattle.ln_base.proofs.Texts.Putting.{puts_last, puts_then}
use Rattle.ln_parse.proofs.printer.put_site.Goals as goal

pub returns : goal.returns
returns c = puts_last c.put_tokens-3.result _ _ (puts_then c.in_ok-put_tokens.ensures (puts_then c.in_ok-put_name.ensures
    (puts_then c.in_ok-put_tokens-2.ensures (simp c.as_slice.ensures at c.in_ok-put_coords.ensures)))) c.put_tokens-3.ensures
