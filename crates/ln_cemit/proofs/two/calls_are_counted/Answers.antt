-- Answers to the goals of `calls_are_counted` in src/two.rt.
use Rattle.ln_cemit.proofs.Choices.Finds.{calls-are-counted}
use Rattle.ln_cemit.proofs.two.calls_are_counted.Goals as goal

pub returns : goal.returns
returns c = calls-are-counted
