use Rattle.std.proofs.Common.{◌≡◌, ◌≤◌, take}
use Rattle.ln_bound.specs.Light.{most}
use Rattle.ln_poly.specs.Weight.{grown, total_weight}
use Rattle.ln_poly.proofs.weights.total.Given as goal

abbrev pub invariant-terms : goal.invariant-terms
invariant-terms l = (l.sum ≡ total_weight (grown l.more l.vars) (take l.t-index l.f)) × (l.sum ≤ most)
