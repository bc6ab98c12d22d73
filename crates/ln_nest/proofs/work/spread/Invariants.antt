use Rattle.std.proofs.Common.{◌≡◌}
use Rattle.ln_tree.specs.Exps.{vector}
use Rattle.ln_nest.proofs.work.spread.Given as goal

abbrev pub invariant-variables : goal.invariant-variables
invariant-variables l = l.out.items ≡ vector l.v l.pairs
