use Rattle.std.proofs.Common.{arith, sym}
use Rattle.std.proofs.lemmas.Option.{get_or_from_slice_get}
use Rattle.ln_verify.proofs.Judging.Subjects.{case-subject, cases-first, cases-next, cases-whole}
use Rattle.ln_verify.proofs.listings.cases_of.Goals as goal

pub each-init : goal.each-init
each-init c = cases-first c.args.preds.now c.new-cases.result.items c.new-cases.ensures.items

pub each-preserved : goal.each-preserved
each-preserved c =
    let k = c.in_ok-case in let p = c.among.result.pred in
    cases-next c.args.preds.now c.each.i p c.each.cases.items c.push.new.self.items k.case (omega (arith, c.each-test.true))
    (sym (get_or_from_slice_get c.args.preds.now c.each.i p p c.among.ensures.pred)) c.in_ok-push.ensures.items c.each.invariant k.ensures.case
    (case-subject p k.case k.ensures.shape k.ensures.normal)

pub returns-clause-cases : goal.returns-clause-cases
returns-clause-cases c = c.each.invariant.0

pub returns-clause-subjects : goal.returns-clause-subjects
returns-clause-subjects c = cases-whole c.args.preds.now c.each.i c.each.cases.items (omega (arith, c.each-test.false, c.each.auto.i-end)) c.each.invariant
