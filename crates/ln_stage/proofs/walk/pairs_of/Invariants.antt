use Rattle.std.proofs.Common.{◌≡◌, ◌++◌, drop}
use Rattle.ln_tree.specs.Exps.{IsAbove}
use Rattle.ln_poly.specs.Packed.{pairs_from}
use Rattle.ln_stage.specs.Tally.{pairs_of}
use Rattle.ln_stage.proofs.walk.pairs_of.Given as goal

abbrev pub invariant-vars : goal.invariant-vars
invariant-vars l = record { all : l.a ++ pairs_from l.v (drop l.v l.p) ≡ pairs_of l.p; above : IsAbove l.a l.v }
