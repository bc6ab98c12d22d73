use Rattle.std.proofs.lemmas.Result.{IfOk-weaker}
use Rattle.ln_parse.proofs.Texts.Putting.{tokens_put}
use Rattle.ln_parse.proofs.printer.put_tokens.Goals as goal

pub returns : goal.returns
returns c = IfOk-weaker c.put.result _ _ (λ _ h. tokens_put c.args.text.now h) c.put.ensures
