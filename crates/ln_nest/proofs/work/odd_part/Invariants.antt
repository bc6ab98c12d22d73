use Rattle.std.proofs.Common.{◌≡◌, take}
use Rattle.ln_nest.specs.Nested.{odd_part}
use Rattle.ln_nest.proofs.work.odd_part.Given as goal

abbrev pub invariant-exponents : goal.invariant-exponents
invariant-exponents l = l.out.items ≡ odd_part (take l.n-index l.m)
