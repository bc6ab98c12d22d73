use Rattle.std.proofs.Common.{map, take}
use Rattle.std.specs.List.{AllZip}
use Rattle.ln_tree.specs.Table.{pred_of}
use Rattle.ln_stage.specs.Accepted.{IsBasis}
use Rattle.ln_compile.proofs.programs.bases.Given as goal

abbrev pub invariant-each : goal.invariant-each
invariant-each l = AllZip IsBasis (map pred_of (take l.k l.preds)) l.all
