-- Answers to the goals of `files_have_texts` in src/laws.rt.
use Rattle.ln_csyn.proofs.Reading.ReadLemmas.{text_is_kept}
use Rattle.ln_csyn.proofs.Writing.Spells.{derives_file}
use Rattle.ln_csyn.proofs.Writing.Writes.{written_is_file}
use Rattle.ln_csyn.proofs.Writing.Laying.{laid_is_file}
use Rattle.ln_csyn.proofs.Writing.LineEnds.{laid_ends_lines}
use Rattle.ln_csyn.proofs.laws.files_have_texts.Goals as goal

pub returns-clause-kept : goal.returns-clause-kept
returns-clause-kept c = text_is_kept

pub returns-clause-derived : goal.returns-clause-derived
returns-clause-derived c = derives_file

pub returns-clause-text : goal.returns-clause-text
returns-clause-text c = written_is_file

pub returns-clause-laid : goal.returns-clause-laid
returns-clause-laid c = laid_is_file

pub returns-clause-lines : goal.returns-clause-lines
returns-clause-lines c = laid_ends_lines
