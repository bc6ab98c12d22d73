use Rattle.std.proofs.Common.{◌≡◌, ◌++◌, drop}
use Rattle.ln_cemit.specs.Walked.{without}
use Rattle.ln_cemit.proofs.walk.without.Given as goal

abbrev pub invariant-places : goal.invariant-places
invariant-places l = l.others.items ++ without l.place (drop l.p-index l.places) ≡ without l.place l.places
