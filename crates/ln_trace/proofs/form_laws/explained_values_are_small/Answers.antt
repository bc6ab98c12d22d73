-- Answers to the goals of `explained_values_are_small` in src/form_laws.rt.
use Rattle.ln_trace.proofs.SmallValues.{explained-small}
use Rattle.ln_trace.proofs.form_laws.explained_values_are_small.Goals as goal

pub returns : goal.returns
returns c = explained-small
