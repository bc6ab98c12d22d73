use Rattle.std.proofs.Common.{take}
use Rattle.csv.specs.Records.{fields_of}
use Rattle.ln_rows.specs.Columns.{column_names, StandAt}
use Rattle.ln_rows.proofs.names.header.Given as goal

abbrev pub invariant-each : goal.invariant-each
invariant-each l = StandAt (column_names l.t.sites l.t.params (take l.arg-index l.p.args)) (fields_of l.fields) 0 l.at
