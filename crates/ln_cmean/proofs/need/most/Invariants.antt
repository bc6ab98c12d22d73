use Rattle.std.proofs.Common.{◌≡◌, ◌≤◌, ◌-◌, ◌^◌, min, length, map, drop}
use Rattle.ln_csyn.specs.View.{fun_tree}
use Rattle.ln_cmean.specs.Room.{most_slots}
use Rattle.ln_cmean.proofs.need.most.Given as goal

abbrev pub invariant-funs : goal.invariant-funs
invariant-funs l = record {
  within : l.left ≤ length l.funs;
  slots : l.need ≡ min (most_slots (map fun_tree (drop l.left l.funs))) (2 ^ 64 - 1);
}

abbrev pub decreases-funs : goal.decreases-funs
decreases-funs l = l.left
