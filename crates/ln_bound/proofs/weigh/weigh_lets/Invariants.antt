use Rattle.std.proofs.Common.{map, drop}
use Rattle.ln_tree.specs.Formula.{formula}
use Rattle.ln_bound.proofs.Measures.Measuring.{LetsMeasured}
use Rattle.ln_bound.proofs.weigh.weigh_lets.Given as goal

abbrev pub invariant-each : goal.invariant-each
invariant-each l = LetsMeasured l.vars (map formula l.lets) (map formula (drop l.e-index l.lets)) l.done l.all
