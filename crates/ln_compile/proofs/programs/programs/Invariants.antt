use Rattle.std.proofs.Common.{map, take}
use Rattle.ln_tree.specs.Table.{pred_of}
use Rattle.ln_compile.specs.Compiled.{AreProgramsOf}
use Rattle.ln_compile.proofs.programs.programs.Given as goal

abbrev pub invariant-each : goal.invariant-each
invariant-each l = AreProgramsOf (map pred_of (take l.i l.preds)) l.programs
