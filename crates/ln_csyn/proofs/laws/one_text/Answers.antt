-- Answers to the goals of `one_text` in src/laws.rt.
use Rattle.ln_csyn.proofs.Reading.CompleteFile.{one_file}
use Rattle.ln_csyn.proofs.Lexing.Longest.{first_same}
use Rattle.ln_csyn.proofs.Lexing.Scanned.{one_lexed, one_text}
use Rattle.ln_csyn.proofs.laws.one_text.Goals as goal

pub returns-clause-first : goal.returns-clause-first
returns-clause-first c = first_same

pub returns-clause-lexed : goal.returns-clause-lexed
returns-clause-lexed c = one_lexed

pub returns-clause-file : goal.returns-clause-file
returns-clause-file c = one_file

pub returns-clause-text : goal.returns-clause-text
returns-clause-text c = one_text
