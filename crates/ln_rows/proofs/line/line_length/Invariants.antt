use Rattle.std.proofs.Common.{length, ◌-◌, ◌≡◌, ◌≤◌, true, take}
use Rattle.std.specs.List.{list_all}
use Rattle.ln_rows.specs.Line.{is_unquoted}
use Rattle.ln_rows.proofs.line.line_length.Given as goal

abbrev pub invariant-line : goal.invariant-line
invariant-line l = (l.at ≤ length l.text) × (list_all is_unquoted (take l.at l.text) ≡ true)

abbrev pub decreases-line : goal.decreases-line
decreases-line l = length l.text - l.at
