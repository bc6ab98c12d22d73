use Rattle.std.proofs.Common.{◌≡◌, drop}
use Rattle.ln_tree.specs.Exps.{pairs_cmp}
use Rattle.ln_tree.proofs.exps.cmp_pairs.Given as goal

abbrev pub invariant-pairs : goal.invariant-pairs
invariant-pairs l = pairs_cmp (drop l.i l.a) (drop l.i l.b) ≡ pairs_cmp l.a l.b
