-- Answers to the goals of `no_slots` in src/body.rt.
use Rattle.ln_cemit.proofs.Writing.Loops.{none_unset}
use Rattle.ln_cemit.proofs.body.no_slots.Goals as goal

pub returns-clause-none : goal.returns-clause-none
returns-clause-none c = none_unset 256
