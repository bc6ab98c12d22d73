-- Answers to the goals of `within` in src/judge.rt.
use Rattle.std.proofs.Common.{◌≡◌, sym, ◌∙◌, ap}
use Rattle.std.proofs.lemmas.Result.{IfOk-weaker}
use Rattle.ln_cert.specs.declared.part.Part.TheVariants.{Block, Order}
use Rattle.ln_verify.specs.Here.{subject_of}
use Rattle.ln_verify.specs.Versions.{version_of}
use Rattle.ln_verify.proofs.judge.within.Goals as goal

pub returns-in-NoFilter : goal.returns-in-NoFilter
returns-in-NoFilter c = rw c.in-NoFilter.is (c.no_filter.ensures (version_of c.args.version) (subject_of c.args.case.now))

pub returns-in-Filter : goal.returns-in-Filter
returns-in-Filter c =
    IfOk-weaker c.filter.result _ _ (λ ok h. rw c.in-Filter.is (h (version_of c.args.version) (subject_of c.args.case.now))) c.filter.ensures

pub returns-in-Decide : goal.returns-in-Decide
returns-in-Decide c = IfOk-weaker c.decide.result _ _ (λ ok h. rw c.in-Decide.is (h (version_of c.args.version))) c.decide.ensures

pub returns-in-Block : goal.returns-in-Block
returns-in-Block c =
    let e : c.args.line.now ≡ Block c.in-Block.k c.as_slice.result.now = c.in-Block.is ∙ ap (Block c.in-Block.k) (sym c.as_slice.ensures) in
    IfOk-weaker c.block.result _ _ (λ ok h. rw e (h (version_of c.args.version))) c.block.ensures

pub returns-in-End : goal.returns-in-End
returns-in-End c = IfOk-weaker c.end.result _ _ (λ ok h. rw c.in-End.is (h (version_of c.args.version))) c.end.ensures

pub returns-in-Order : goal.returns-in-Order
returns-in-Order c =
    let e : c.args.line.now ≡ Order c.as_slice-in-Order.result.now c.as_slice-in-Order-2.result.now =
    c.in-Order.is ∙ ap (λ x. Order x c.in-Order.list) (sym c.as_slice-in-Order.ensures)
    ∙ ap (λ x. Order c.as_slice-in-Order.result.now x) (sym c.as_slice-in-Order-2.ensures) in
    IfOk-weaker c.order.result _ _ (λ ok h. rw e (h (version_of c.args.version))) c.order.ensures
