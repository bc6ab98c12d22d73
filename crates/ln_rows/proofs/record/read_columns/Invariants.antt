use Rattle.csv.specs.Records.{fields_of}
use Rattle.ln_rows.proofs.Fields.RowLemmas.{Filled}
use Rattle.ln_rows.proofs.record.read_columns.Given as goal

abbrev pub invariant-vars : goal.invariant-vars
invariant-vars l = Filled l.vars (fields_of l.fields) l.initial.into.index l.initial.into.values l.v l.site l.at l.into.index l.into.values
