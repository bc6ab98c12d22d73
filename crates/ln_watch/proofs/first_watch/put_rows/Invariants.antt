use Rattle.std.proofs.Common.{◌≡◌, ◌+◌, ◌*◌, ◌≤◌, ◌++◌, length, drop}
use Rattle.ln_watch.specs.Fold.{rows_text}
use Rattle.ln_watch.proofs.first_watch.put_rows.Given as goal

abbrev pub invariant-rows : goal.invariant-rows
invariant-rows l = (l.buf ++ rows_text (drop l.row-index l.rows) ≡ l.initial.buf ++ rows_text l.rows) × (length l.buf ≤ 5 + 21 * l.row-index)
