use Rattle.std.proofs.Common.{◌≡◌, ◌≤◌, ◌*◌, ◌^◌}
use Rattle.ln_bound.specs.Light.{most}
use Rattle.ln_poly.proofs.weights.scaled.Given as goal

abbrev pub invariant-factors : goal.invariant-factors
invariant-factors l = (l.p ≡ l.w * l.m ^ l._k) × (l.p ≤ most)
