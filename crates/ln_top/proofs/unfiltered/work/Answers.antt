-- Answers to the goals of `work` in src/unfiltered.rt.
use Rattle.ln_top.proofs.ExactLemmas.AnswerLaws.{carried}
use Rattle.ln_top.proofs.unfiltered.work.Goals as goal

pub returns : goal.returns
returns g c =
    λ given s. carried c.args.style c.args.ready given _ _ _ _ _ s c.in_ok-text.ensures (rw c.deref.ensures.value at c.put_text.ensures)
