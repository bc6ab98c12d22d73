use Rattle.ln_due.proofs.Parts.BlockLemmas.{plain-whole}
use Rattle.ln_due.proofs.Verdicts.Composition.{cut-nothing, stages-coefficients}
use Rattle.ln_due.proofs.due.stages_are_coefficients.Goals as goal

pub returns-clause-values : goal.returns-clause-values
returns-clause-values c = stages-coefficients

pub returns-clause-whole : goal.returns-clause-whole
returns-clause-whole c = plain-whole

pub returns-clause-cut : goal.returns-clause-cut
returns-clause-cut c = cut-nothing
