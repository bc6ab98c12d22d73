use Rattle.std.proofs.Common.{take}
use Rattle.std.specs.List.{AllZip}
use Rattle.ln_top.proofs.TargetLemmas.FactorsLaws.{IsMadeAt}
use Rattle.ln_top.proofs.target.factors.scratches.Given as goal

abbrev pub invariant-each : goal.invariant-each
invariant-each l = AllZip (IsMadeAt l.programs) (take l.i-index l.which) l.scratches.items
