-- Answers to the goals of `accepted` in src/verified.rt.
use Rattle.ln_trial.proofs.verified.accepted.Goals as goal

pub returns : goal.returns
returns c = rw c.table.ensures c.requires
