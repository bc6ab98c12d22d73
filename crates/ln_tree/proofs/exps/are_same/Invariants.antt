use Rattle.std.proofs.Common.{◌≡◌, ◌≤◌, ◌-◌, drop}
use Rattle.ln_tree.specs.Exps.{same_pairs}
use Rattle.ln_tree.proofs.exps.are_same.Given as goal

abbrev pub decreases-fours : goal.decreases-fours
decreases-fours l = l.n - l.i

abbrev pub decreases-pairs : goal.decreases-pairs
decreases-pairs l = l.n - l.i

abbrev pub invariant-fours : goal.invariant-fours
invariant-fours l = (l.i ≤ l.n) × (same_pairs (drop l.i l.a) (drop l.i l.b) ≡ same_pairs l.a l.b)

abbrev pub invariant-pairs : goal.invariant-pairs
invariant-pairs l = (l.i ≤ l.n) × (same_pairs (drop l.i l.a) (drop l.i l.b) ≡ same_pairs l.a l.b)
