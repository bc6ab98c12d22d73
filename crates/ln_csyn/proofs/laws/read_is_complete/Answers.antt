-- Answers to the goals of `read_is_complete` in src/laws.rt.
use Rattle.ln_csyn.proofs.Reading.Complete.{read_is_complete}
use Rattle.ln_csyn.proofs.Reading.CompleteFile.{body_is_complete, file_is_complete}
use Rattle.ln_csyn.proofs.laws.read_is_complete.Goals as goal

pub returns-clause-expr : goal.returns-clause-expr
returns-clause-expr c = read_is_complete

pub returns-clause-body : goal.returns-clause-body
returns-clause-body c = body_is_complete

pub returns-clause-file : goal.returns-clause-file
returns-clause-file c = file_is_complete
