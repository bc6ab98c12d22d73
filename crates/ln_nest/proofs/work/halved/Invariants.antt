use Rattle.std.proofs.Common.{◌≡◌, take}
use Rattle.ln_nest.specs.Nested.{halved}
use Rattle.ln_nest.proofs.work.halved.Given as goal

abbrev pub invariant-exponents : goal.invariant-exponents
invariant-exponents l = l.out.items ≡ halved (take l.n-index l.m)
