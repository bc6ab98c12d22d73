-- The loop of `put_places` in src/put.rt.
use Rattle.std.proofs.Common.{◌++◌, decimal, drop, map}
use Rattle.ln_base.specs.Lines.{Leaves, spaced}
use Rattle.ln_cert.proofs.put.put_places.Given as goal

abbrev pub invariant-places : goal.invariant-places
invariant-places l = Leaves spaced l.fn.out.items l.out.items (λ r. map decimal (drop l.place-index l.places) ++ r) (λ r. map decimal l.places ++ r)
