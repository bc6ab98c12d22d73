-- Answers to the goals of `put_name` in src/body.rt.
use Rattle.std.proofs.lemmas.Result.{IfOk-weaker}
use Rattle.ln_base.proofs.Texts.Putting.{puts_then}
use Rattle.ln_cemit.proofs.Writing.Parts.{name_put}
use Rattle.ln_cemit.proofs.body.put_name.Goals as goal

pub returns : goal.returns
returns c = IfOk-weaker c.put_tokens-2.result _ _
    (λ _ p. name_put c.args.n (puts_then c.in_ok-put_tokens.ensures (puts_then c.in_ok-put_decl_name.ensures p))) c.put_tokens-2.ensures
