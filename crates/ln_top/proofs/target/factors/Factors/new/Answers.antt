use Rattle.std.proofs.Common.{map, refl}
use Rattle.ln_tree.specs.Table.{pred_of}
use Rattle.ln_top.proofs.TargetLemmas.FactorsLaws.{factors_fit, programs_at}
use Rattle.ln_compile.proofs.Numbers.{numbers_within}
use Rattle.ln_top.proofs.target.factors.Factors.new.Goals as goal

pub places-requires-clause-within : goal.places-requires-clause-within
places-requires-clause-within c =
    numbers_within c.args.c.now.table.preds c.args.numbers.now c.requires.shape.preds c.requires.shape.numbered

pub pred-requires : goal.pred-requires
pred-requires c =
    numbers_within c.args.c.now.table.preds c.args.numbers.now c.requires.shape.preds c.requires.shape.numbered 0 0 c.requires.some

pub invariant_of-result : goal.invariant_of-result
invariant_of-result c =
    factors_fit c.args.c.now.table c.args.numbers.now _ _ _ _ c.in_ok-which.ensures c.requires.shape c.requires.some c.requires.few
    c.pred.ensures

pub returns-clause-names : goal.returns-clause-names
returns-clause-names c = rw c.table.ensures refl

pub returns-clause-programs : goal.returns-clause-programs
returns-clause-programs c = λ ps n.
    let m = c.in_ok-which.ensures in
    programs_at (map pred_of c.args.c.now.table.preds) m.numbers _ _ c.args.numbers.now ps m.made m.stand n

pub returns-clause-factors : goal.returns-clause-factors
returns-clause-factors c =
    factors_fit c.args.c.now.table c.args.numbers.now _ _ _ _ c.in_ok-which.ensures c.requires.shape c.requires.some c.requires.few
    c.pred.ensures
