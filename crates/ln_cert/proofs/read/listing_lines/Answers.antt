-- Answers to the goals of `listing_lines` in src/read.rt.
use Rattle.std.proofs.Common.{◌∷◌, ap, drop, rules, ◌∙◌}
use Rattle.ln_base.specs.Lines.{lines}
use Rattle.ln_cert.specs.Stop.{Stops}
use Rattle.ln_cert.proofs.Reading.OneLine.{list_sound}
use Rattle.ln_cert.proofs.Reading.Whole.{open_first, opened, other_first, stops}
use Rattle.ln_cert.proofs.read.listing_lines.Goals as goal

pub returns-in_default-clause-err : goal.returns-in_default-clause-err
returns-in_default-clause-err c = open_first c.args.bytes.now (rw c.in_default.is at c.first_line.ensures)

pub returns-in_default-version-clause-err : goal.returns-in_default-version-clause-err
returns-in_default-version-clause-err c = other_first c.args.bytes.now c.in-Some.first.now c.in-Some.behind
    (rw c.in-Some.is at c.first_line.ensures) (rw c.in_default-version.is at c.version.ensures)

pub opened-requires-clause-sound : goal.opened-requires-clause-sound
opened-requires-clause-sound c = list_sound c.in-Some-version.version

pub returns-in_err-rest-clause-err : goal.returns-in_err-rest-clause-err
returns-in_err-rest-clause-err c =
    let s : Stops c.args.bytes.now c.in_err-rest.field-0.0 =
    stops c.args.bytes.now c.in-Some-version.version c.in-Some.behind c.in_err-rest.field-0.0 c.in-Some-version.ensures.0
    (c.in-Some.ensures.same ∙ ap (λ x. x ∷ lines (drop c.in-Some.behind c.args.bytes.now)) c.in-Some-version.ensures.1) c.in_err-rest.ensures.err in
    search rules

pub returns-clause-ok : goal.returns-clause-ok
returns-clause-ok c = opened c.args.bytes.now c.in-Some-version.version c.in_ok-rest.rest c.in-Some-version.ensures.0 c.in_ok-rest.ensures.ok
