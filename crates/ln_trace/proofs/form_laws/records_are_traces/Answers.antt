-- Answers to the goals of `records_are_traces` in src/form_laws.rt.
use Rattle.ln_trace.proofs.Explaining.{explained-trace, records-trace}
use Rattle.ln_trace.proofs.form_laws.records_are_traces.Goals as goal

pub returns-clause-records : goal.returns-clause-records
returns-clause-records c = records-trace

pub returns-clause-explained : goal.returns-clause-explained
returns-clause-explained c = explained-trace
