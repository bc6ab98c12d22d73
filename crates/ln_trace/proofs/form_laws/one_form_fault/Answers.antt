-- Answers to the goals of `one_form_fault` in src/form_laws.rt.
use Rattle.ln_trace.proofs.Reading.Whole.{no_text, one_fault}
use Rattle.ln_trace.proofs.form_laws.one_form_fault.Goals as goal

pub returns-clause-none : goal.returns-clause-none
returns-clause-none c = no_text

pub returns-clause-one : goal.returns-clause-one
returns-clause-one c = one_fault
