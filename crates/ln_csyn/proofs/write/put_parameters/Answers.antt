-- Answers to the goals of `put_parameters` in src/write.rt.
use Rattle.std.proofs.lemmas.Result.{IfOk-weaker}
use Rattle.ln_csyn.proofs.write.put_parameters.Goals as goal

pub returns-then-indexed : goal.returns-then-indexed
returns-then-indexed c = IfOk-weaker c.put_tokens.result _ _ (λ _ p. rw c.if-indexed.true p) c.put_tokens.ensures

pub returns-else-indexed : goal.returns-else-indexed
returns-else-indexed c = IfOk-weaker c.put_tokens-else-indexed.result _ _ (λ _ p. rw c.if-indexed.false p) c.put_tokens-else-indexed.ensures
