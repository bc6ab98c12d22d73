-- Answers to the goals of `put_nothing` in src/walk.rt.
use Rattle.std.proofs.lemmas.Result.{IfOk-weaker}
use Rattle.ln_cemit.proofs.Writing.Parts.{nothing_put}
use Rattle.ln_cemit.proofs.walk.put_nothing.Goals as goal

pub returns : goal.returns
returns c = IfOk-weaker c.put_tokens.result _ _ (λ _ p. nothing_put p) c.put_tokens.ensures
