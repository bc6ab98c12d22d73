-- Answers to the goals of `verify_lines` in src/listings.rt.
use Rattle.std.proofs.Common.{List, ap, map, subst, sym, ◌∙◌}
use Rattle.ln_tree.specs.declared.pred.Pred.{Pred}
use Rattle.ln_tree.specs.Table.{pred_of}
use Rattle.ln_cert.specs.Listing.{IsFormFault}
use Rattle.ln_verify.specs.Here.{subjects_of}
use Rattle.ln_verify.specs.Verified.{AreSubjectsOf, rules_of}
use Rattle.ln_verify.specs.Versions.{version_of}
use Rattle.ln_verify.proofs.Judging.Subjects.{form-left, form-of, form-right, verified-lines}
use Rattle.ln_verify.proofs.listings.verify_lines.Goals as goal

pub returns-in-Err-Form : goal.returns-in-Err-Form
returns-in-Err-Form c =
    let f = subst (IsFormFault c.args.bytes.now) (sym c.in-Err-Form.line-is)
    (form-of c.args.bytes.now _ _ _ c.in-Err-Form.is c.in-Err-Form.field-0-is c.listing_lines.ensures.err) in
    let r = form-right (map pred_of c.args.preds.now) c.args.bytes.now _ f in
    record { valid = r.0; invalid = r.1 }

pub judge-requires-clause-form : goal.judge-requires-clause-form
judge-requires-clause-form c es h = form-left c.args.bytes.now (version_of c.of_number-version.result) c.in-Ok.lines es
    (c.of_number-version.ensures ∙ ap rules_of c.version.ensures) c.in-Ok.ensures.ok h

pub returns : goal.returns
returns c =
    let cs = c.in_ok-cases.cases.items in
    let r = verified-lines (map pred_of c.args.preds.now) c.args.bytes.now c.in-Ok.lines (version_of c.of_number-version.result) cs c.as_slice.result.now
    c.in_ok-first.first c.judged_of.result c.in-Ok.ensures.ok (c.of_number-version.ensures ∙ ap rules_of c.version.ensures)
    c.in_ok-cases.ensures.subjects c.as_slice.ensures.value c.judged_of.ensures c.in_ok-first.ensures in
    record { valid = r.0; invalid = r.1 }
