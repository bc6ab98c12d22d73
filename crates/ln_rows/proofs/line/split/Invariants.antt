use Rattle.std.proofs.Common.{◌≡◌, ◌≤◌, [], length}
use Rattle.csv.specs.Records.{fields_of, partial_of}
use Rattle.ln_rows.proofs.Records.LineLemmas.{Splits}
use Rattle.ln_rows.proofs.line.split.Given as goal

abbrev pub invariant-fields : goal.invariant-fields
invariant-fields l = Splits l.line l.most (fields_of l.into) l.rest × (partial_of l.into ≡ []) × (length l.rest ≤ length l.line)

abbrev pub decreases-fields : goal.decreases-fields
decreases-fields l = length l.rest
