use Rattle.std.proofs.Common.{length, ◌-◌, ◌≡◌, ◌≤◌, true, take}
use Rattle.std.specs.List.{list_all}
use Rattle.ln_rows.specs.Line.{is_no_comma}
use Rattle.ln_rows.proofs.line.field_length.Given as goal

abbrev pub invariant-field : goal.invariant-field
invariant-field l = (l.at ≤ length l.line) × (list_all is_no_comma (take l.at l.line) ≡ true)

abbrev pub decreases-field : goal.decreases-field
decreases-field l = length l.line - l.at
