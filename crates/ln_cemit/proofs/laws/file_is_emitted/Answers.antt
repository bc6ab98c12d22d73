-- Answers to the goals of `file_is_emitted` in src/laws.rt.
use Rattle.ln_cemit.proofs.Choices.Says.{file_is_emitted}
use Rattle.ln_cemit.proofs.Writing.Whole.{begun_is_emitted_as}
use Rattle.ln_cemit.proofs.laws.file_is_emitted.Goals as goal

pub returns-clause-file : goal.returns-clause-file
returns-clause-file c = file_is_emitted

pub returns-clause-begun : goal.returns-clause-begun
returns-clause-begun c = begun_is_emitted_as
