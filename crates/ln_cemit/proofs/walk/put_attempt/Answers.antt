-- Answers to the goals of `put_attempt` in src/walk.rt.
use Rattle.std.proofs.lemmas.Result.{IfOk-weaker}
use Rattle.ln_base.proofs.Texts.Putting.{puts_then}
use Rattle.ln_cemit.proofs.Writing.Parts.{attempt_put}
use Rattle.ln_cemit.proofs.walk.put_attempt.Goals as goal

pub returns : goal.returns
returns c = IfOk-weaker c.put_tokens-2.result _ _
    (λ _ p. attempt_put c.args.title.now (puts_then c.in_ok-put_tokens.ensures (puts_then c.in_ok-put.ensures p))) c.put_tokens-2.ensures
