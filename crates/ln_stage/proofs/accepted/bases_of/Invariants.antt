use Rattle.std.proofs.Common.{map, take}
use Rattle.std.specs.List.{AllZip}
use Rattle.ln_tree.specs.Table.{pred_of}
use Rattle.ln_stage.specs.Accepted.{IsBasis}
use Rattle.ln_stage.proofs.accepted.bases_of.Given as goal

abbrev pub invariant-each : goal.invariant-each
invariant-each l = AllZip IsBasis (map pred_of (take l.i l.preds)) l.bases
