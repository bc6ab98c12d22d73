use Rattle.std.proofs.Common.{arith, map, take}
use Rattle.std.proofs.lemmas.Result.{err_from_is_err_and}
use Rattle.ln_tree.specs.Table.{pred_of}
use Rattle.ln_stage.specs.Accepted.{IsBasis}
use Rattle.ln_compile.proofs.Making.BuildingLemmas.{based-sound}
use Rattle.ln_stage.proofs.Zipped.{zipped-more}
use Rattle.ln_compile.proofs.Refusing.Judging.{first_fault}
use Rattle.ln_compile.proofs.programs.bases.Goals as goal

pub returns-in_err-one-clause-err : goal.returns-in_err-one-clause-err
returns-in_err-one-clause-err c =
    let p = err_from_is_err_and c.from_residual.result c.from_residual.ensures.1 in
    rw (p.1, p.2) (first_fault c.args.preds.now c.each.k c.index-preds-k.result c.in_err-one.field-0.0 (omega (arith, c.each-test.true))
    c.index-preds-k.is (based-sound (map pred_of (take c.each.k c.args.preds.now)) c.each.all c.each.invariant) c.in_err-one.ensures.err)

pub each-preserved : goal.each-preserved
each-preserved c =
    zipped-more IsBasis c.args.preds.now c.each.k c.index-preds-k.result c.each.all c.push.new.self c.in_ok-one.one
    (omega (arith, c.each-test.true)) c.index-preds-k.is c.in_ok-push.ensures.ok c.in_ok-one.ensures.basis c.each.invariant
