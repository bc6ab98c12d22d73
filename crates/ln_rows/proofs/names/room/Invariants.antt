use Rattle.std.proofs.Common.{◌≡◌, ◌+◌, ◌-◌, ◌^◌, length, min, take}
use Rattle.ln_rows.specs.Columns.{column_names}
use Rattle.ln_rows.proofs.names.room.Given as goal

abbrev pub invariant-each : goal.invariant-each
invariant-each l = l.room ≡ min (length (column_names l.t.sites l.t.params (take l.arg-index l.p.args)) + 1) (2 ^ 64 - 1)
