-- What `size_of_power` keeps, or what it measures.
use Rattle.std.proofs.Common.{◌≡◌, ◌≤◌, ◌^◌}
use Rattle.ln_interval.specs.Range.{most}
use Rattle.ln_bound.proofs.weigh.size_of_power.Given as goal

abbrev pub invariant-factors : goal.invariant-factors
invariant-factors l = (l.p ≡ l.a ^ l._k) × (l.p ≤ most)
