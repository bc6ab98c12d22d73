-- Answers to the goals of `trace_lines` in src/read.rt.
use Rattle.std.proofs.Common.{◌∷◌, ap, drop, rules, ◌∙◌}
use Rattle.ln_base.specs.Lines.{lines}
use Rattle.ln_trace.specs.Stop.{Stops}
use Rattle.ln_trace.proofs.Reading.OneLine.{no_true, trace_sound}
use Rattle.ln_trace.proofs.Reading.Whole.{open_first, opened, other_first, stops}
use Rattle.ln_trace.proofs.read.trace_lines.Goals as goal

pub returns-in_default-clause-err : goal.returns-in_default-clause-err
returns-in_default-clause-err c = open_first c.args.bytes.now (rw c.in_default.is at c.first_line.ensures)

pub returns-then-not-is_first-clause-err : goal.returns-then-not-is_first-clause-err
returns-then-not-is_first-clause-err c = other_first c.args.bytes.now c.in-Some.first.now c.in-Some.behind
    (rw c.in-Some.is at c.first_line.ensures) (no_true c.is_first.result c.if-not-is_first.true c.is_first.ensures.1)

pub opened-requires-clause-sound : goal.opened-requires-clause-sound
opened-requires-clause-sound c = trace_sound

pub opened-requires-clause-first : goal.opened-requires-clause-first
opened-requires-clause-first c =
    c.in-Some.ensures.same ∙ ap (λ x. x ∷ lines (drop c.in-Some.behind c.args.bytes.now)) (c.is_first.ensures.0 c.if-not-is_first.false)

pub returns-in_err-rest-clause-err : goal.returns-in_err-rest-clause-err
returns-in_err-rest-clause-err c =
    let s : Stops c.args.bytes.now c.in_err-rest.field-0.0 =
    stops c.args.bytes.now c.in-Some.behind c.in_err-rest.field-0.0
    (c.in-Some.ensures.same ∙ ap (λ x. x ∷ lines (drop c.in-Some.behind c.args.bytes.now)) (c.is_first.ensures.0 c.if-not-is_first.false))
    c.in_err-rest.ensures.err in
    search rules

pub returns-clause-ok : goal.returns-clause-ok
returns-clause-ok c = opened c.args.bytes.now c.in_ok-rest.rest c.in_ok-rest.ensures.ok
