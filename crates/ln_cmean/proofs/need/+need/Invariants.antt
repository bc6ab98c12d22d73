use Rattle.std.proofs.Common.{◌≡◌, ◌≤◌, ◌-◌, ◌^◌, min, length, drop}
use Rattle.ln_csyn.specs.View.{body_tree}
use Rattle.ln_cmean.specs.Room.{slots_in}
use Rattle.ln_cmean.proofs.need.+need.Given as goal

abbrev pub invariant-need_of-stmts : goal.invariant-need_of-stmts
invariant-need_of-stmts l = record {
  within : l.left ≤ length l.stmts;
  slots : l.need ≡ min (slots_in (body_tree (drop l.left l.stmts))) (2 ^ 64 - 1);
}

abbrev pub decreases-need_of-stmts : goal.decreases-need_of-stmts
decreases-need_of-stmts l = l.left
