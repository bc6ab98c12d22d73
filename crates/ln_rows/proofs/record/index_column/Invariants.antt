use Rattle.std.proofs.Common.{◌≡◌, ◌+◌, length, drop}
use Rattle.ln_rows.specs.Record.{columns, index_column}
use Rattle.ln_rows.proofs.record.index_column.Given as goal

abbrev pub invariant-vars : goal.invariant-vars
invariant-vars l = (index_column l.at l.left (columns (drop l.i-index l.vars)) ≡ index_column 0 l.place (columns l.vars))
    × (l.at + length (columns (drop l.i-index l.vars)) ≡ length (columns l.vars))
