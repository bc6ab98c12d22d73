use Rattle.std.proofs.Common.{◌≡◌, length}
use Rattle.ln_rows.specs.Left.{first_of}
use Rattle.ln_rows.proofs.plain.past_ends.Given as goal

abbrev pub invariant-ends : goal.invariant-ends
invariant-ends l = first_of l.text ≡ first_of l.rest

abbrev pub decreases-ends : goal.decreases-ends
decreases-ends l = length l.rest
