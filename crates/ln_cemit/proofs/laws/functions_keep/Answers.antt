-- Answers to the goals of `functions_keep` in src/laws.rt.
use Rattle.ln_cemit.proofs.Conditions.Keeping.{funs_keep, blocks_keep, filters_keep}
use Rattle.ln_cemit.proofs.laws.functions_keep.Goals as goal

pub returns-clause-all : goal.returns-clause-all
returns-clause-all c = funs_keep

pub returns-clause-blocks : goal.returns-clause-blocks
returns-clause-blocks c = blocks_keep

pub returns-clause-filters : goal.returns-clause-filters
returns-clause-filters c = filters_keep
