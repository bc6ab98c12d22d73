-- Answers to the goals of `put_tokens` in src/spell.rt.
use Rattle.std.proofs.lemmas.Result.{IfOk-weaker}
use Rattle.ln_csyn.proofs.Writing.PutLemmas.{tokens_put}
use Rattle.ln_csyn.proofs.spell.put_tokens.Goals as goal

pub returns : goal.returns
returns c = IfOk-weaker c.put.result _ _ (λ _ p. tokens_put c.args.text.now p) c.put.ensures
