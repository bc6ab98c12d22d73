use Rattle.std.proofs.Common.{◌≡◌, ◌+◌, ◌-◌, drop}
use Rattle.ln_order.specs.Prefixes.{number_of_front}
use Rattle.ln_order.proofs.prefix.prefix_number.Given as goal

abbrev pub invariant-places : goal.invariant-places
invariant-places l = l.number + number_of_front (drop l.i l.places) (l.j - l.i) ≡ number_of_front l.places l.j
