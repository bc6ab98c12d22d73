use Rattle.std.proofs.Common.{map, take}
use Rattle.ln_tree.specs.Table.{pred_of}
use Rattle.ln_top.specs.Target.Factors.{AreMade, StandAt}
use Rattle.ln_top.proofs.target.factors.places.Given as goal

abbrev pub invariant-each : goal.invariant-each
invariant-each l =
    AreMade (map pred_of l.c.table.preds) l.numbers.items l.programs
    × StandAt l.numbers.items l.which.items (take l.i-index l.wanted)
