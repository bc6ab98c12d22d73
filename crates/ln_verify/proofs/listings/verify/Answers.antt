-- Answers to the goals of `verify` in src/listings.rt.
use Rattle.std.proofs.Common.{List, map, subst, ap, sym, ◌∙◌}
use Rattle.ln_tree.specs.declared.pred.Pred.{Pred}
use Rattle.ln_tree.specs.Table.{pred_of}
use Rattle.ln_verify.specs.Here.{subjects_of}
use Rattle.ln_verify.specs.Verified.{AreSubjectsOf, rules_of}
use Rattle.ln_verify.specs.Versions.{version_of}
use Rattle.ln_verify.proofs.Judging.Subjects.{form-entries, verified}
use Rattle.ln_verify.proofs.listings.verify.Goals as goal

pub bases_of-requires : goal.bases_of-requires
bases_of-requires c = rw c.as_slice-preds.ensures c.requires

pub cases_of-requires : goal.cases_of-requires
cases_of-requires c = rw c.as_slice.ensures c.in_ok-bases.ensures

pub judge-requires-clause-form : goal.judge-requires-clause-form
judge-requires-clause-form c es h = form-entries (version_of c.of_number-version.result) c.args.l.now es
    (c.of_number-version.ensures ∙ ap rules_of c.version.ensures.value) c.lines_of.ensures.kept
    (sym h ∙ c.of-lines.ensures.lines ∙ c.lines_of.ensures.value)

pub returns : goal.returns
returns c =
    let cs = c.in_ok-cases.cases.items in
    let r = verified (map pred_of c.args.t.now.preds) c.args.l.now (version_of c.of_number-version.result) cs c.as_slice-2.result.now c.lines_of.result.now
    c.in_ok-first.first c.judged_of.result (c.of_number-version.ensures ∙ ap rules_of c.version.ensures.value)
    (subst (λ (ps : List Pred). AreSubjectsOf (map pred_of ps) (subjects_of cs)) c.as_slice-preds.ensures c.in_ok-cases.ensures.subjects)
    c.as_slice-2.ensures.value c.lines_of.ensures.value c.judged_of.ensures
    (c.in_ok-first.ensures c.lines_of.result.now c.of-lines.ensures.lines) in
    record { valid = r.0; invalid = r.1 }
