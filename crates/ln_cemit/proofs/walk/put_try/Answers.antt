-- Answers to the goals of `put_try` in src/walk.rt.
use Rattle.std.proofs.lemmas.Result.{IfOk-weaker}
use Rattle.ln_base.proofs.Texts.Putting.{puts_then}
use Rattle.ln_csyn.proofs.Writing.PutLemmas.{goes_group}
use Rattle.ln_cemit.specs.Names.{answer_name}
use Rattle.ln_cemit.specs.Walked.{attempt}
use Rattle.ln_cemit.proofs.walk.put_try.Goals as goal

pub returns : goal.returns
returns c = IfOk-weaker c.put-2.result _ _ (λ _ p. goes_group 2 (attempt answer_name c.args.title.now)
    (puts_then c.in_ok-put.ensures (puts_then c.in_ok-put_attempt.ensures p))) c.put-2.ensures
