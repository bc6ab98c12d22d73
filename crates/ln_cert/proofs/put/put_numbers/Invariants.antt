-- The loop of `put_numbers` in src/put.rt.
use Rattle.std.proofs.Common.{◌++◌, decimal, drop, map}
use Rattle.ln_base.specs.Lines.{Leaves, spaced}
use Rattle.ln_cert.proofs.put.put_numbers.Given as goal

abbrev pub invariant-list : goal.invariant-list
invariant-list l = Leaves spaced l.fn.out.items l.out.items (λ r. map decimal (drop l.n-index l.list) ++ r) (λ r. map decimal l.list ++ r)
