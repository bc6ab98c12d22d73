use Rattle.std.proofs.Common.{◌≡◌, ◌++◌, take}
use Rattle.ln_poly.proofs.times.concatenated.Given as goal

abbrev pub invariant-pairs : goal.invariant-pairs
invariant-pairs l = l.out ≡ l.a ++ take l.p-index l.b
