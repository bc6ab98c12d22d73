use Rattle.std.proofs.Common.{◌≡◌, take}
use Rattle.ln_tree.specs.Exps.{exponent}
use Rattle.ln_tree.proofs.exps.exponent_of.Given as goal

abbrev pub invariant-pairs : goal.invariant-pairs
invariant-pairs l = exponent l.v (take l.p-index l.pairs) ≡ 0
