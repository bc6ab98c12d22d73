use Rattle.std.proofs.Common.{ℕ, ◌<◌, ◌≤◌, ◌^◌}
use Rattle.ln_poly.proofs.fields.bits.Given as goal

abbrev pub invariant-bits : goal.invariant-bits
invariant-bits l = (j : ℕ) → j < l.k → 2 ^ j ≤ l.n
