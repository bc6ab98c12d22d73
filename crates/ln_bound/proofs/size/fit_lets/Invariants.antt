use Rattle.std.proofs.Common.{map, drop}
use Rattle.ln_tree.specs.Formula.{tree_of}
use Rattle.ln_bound.specs.View.{typed}
use Rattle.ln_bound.proofs.Soundness.ExactLaws.{LetsSoFar}
use Rattle.ln_bound.proofs.size.fit_lets.Given as goal

abbrev pub invariant-each : goal.invariant-each
invariant-each l = LetsSoFar l.vars (map (tree_of l.vars) l.lets) (map (tree_of l.vars) (drop l.e-index l.lets)) (map typed l.done)
