use Rattle.std.proofs.Common.{arith, sym}
use Rattle.std.proofs.lemmas.Option.{get_or_from_slice_get}
use Rattle.ln_compile.specs.Compiled.{IsProgramOf}
use Rattle.ln_compile.proofs.Making.BuildingLemmas.{name-new}
use Rattle.ln_stage.proofs.Zipped.{zipped-more}
use Rattle.ln_compile.proofs.programs.programs.Goals as goal

pub push-requires-clause-name : goal.push-requires-clause-name
push-requires-clause-name c =
    let r = c.in_ok-program in let p = c.among.result.pred in
    name-new c.args.preds.now c.each.i p c.each.programs r.program.shape.name (omega (arith, c.each-test.true))
    (sym (get_or_from_slice_get c.args.preds.now c.each.i p p c.among.ensures.pred)) c.requires.names r.ensures.program.name c.each.invariant

pub each-preserved : goal.each-preserved
each-preserved c =
    let r = c.in_ok-program in let p = c.among.result.pred in
    zipped-more IsProgramOf c.args.preds.now c.each.i p c.each.programs c.push.new.self r.program (omega (arith, c.each-test.true))
    (sym (get_or_from_slice_get c.args.preds.now c.each.i p p c.among.ensures.pred)) c.in_ok-push.ensures.ok r.ensures.program c.each.invariant
