-- Answers to the goals of `put_touch` in src/body.rt.
use Rattle.std.proofs.lemmas.Result.{IfOk-weaker}
use Rattle.ln_cemit.proofs.Writing.Parts.{touch_put}
use Rattle.ln_cemit.proofs.body.put_touch.Goals as goal

pub returns : goal.returns
returns c = IfOk-weaker c.put_tokens.result _ _ (λ _ p. touch_put p) c.put_tokens.ensures
