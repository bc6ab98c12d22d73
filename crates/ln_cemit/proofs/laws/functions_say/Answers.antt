-- Answers to the goals of `functions_say` in src/laws.rt.
use Rattle.ln_cemit.proofs.Meanings.Means.{blocks_say, filters_say}
use Rattle.ln_cemit.proofs.laws.functions_say.Goals as goal

pub returns-clause-blocks : goal.returns-clause-blocks
returns-clause-blocks c = blocks_say

pub returns-clause-filters : goal.returns-clause-filters
returns-clause-filters c = filters_say
