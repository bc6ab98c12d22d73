-- Answers to the goals of `line` in src/judge.rt.
use Rattle.std.proofs.Common.{◌≡◌, ◌∙◌, ap, sym}
use Rattle.std.proofs.lemmas.Result.{IfOk-weaker}
use Rattle.ln_cert.specs.declared.part.Part.TheVariants.{Predicate}
use Rattle.ln_verify.specs.Versions.{version_of}
use Rattle.ln_verify.proofs.Judging.Places.{done-part, named-part, within-part}
use Rattle.ln_verify.proofs.judge.line.Goals as goal

pub returns-in-Predicate : goal.returns-in-Predicate
returns-in-Predicate c =
    let e : c.args.line.now ≡ Predicate c.as_slice.result.now = c.in-Predicate.is ∙ ap Predicate (sym c.as_slice.ensures) in
    rw e (λ here i. named-part (version_of c.args.version) c.args.cases.now c.args.state.now c.in-Some.case.now c.as_slice.result.now c.is_name.result here
    (sym c.in-Some.ensures.value) c.is_name.ensures i.0 i.1)

pub returns-in-Done : goal.returns-in-Done
returns-in-Done c = rw c.in-Done.is (λ here i. done-part (version_of c.args.version) c.args.cases.now c.args.state.now c.done.new.state
    c.in-Some.case.now c.done.result here (sym c.in-Some.ensures.value) c.done.ensures i.0 i.1)

pub returns-in_default-line : goal.returns-in_default-line
returns-in_default-line c =
    IfOk-weaker c.within.result _ _ (λ ok h here i.
    within-part (version_of c.args.version) c.args.cases.now c.args.state.now c.within.new.state c.in-Some.case.now c.args.line.now ok here
    (sym c.in-Some.ensures.value) c.in_default-line.not-Predicate c.in_default-line.not-Done h i.0 i.1) c.within.ensures
