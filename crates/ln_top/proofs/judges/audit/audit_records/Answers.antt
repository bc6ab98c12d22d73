use Rattle.std.proofs.Common.{subst}
use Rattle.ln_rows.specs.Left.{Records}
use Rattle.ln_tree.specs.Table.{pred_of}
use Rattle.ln_top.specs.Judges.Audit.{HasTrace}
use Rattle.ln_rows.specs.Header.{names_of}
use Rattle.ln_top.proofs.JudgesLemmas.AuditLaws.{header_carried}
use Rattle.ln_top.proofs.judges.audit.audit_records.Goals as goal

pub returns-in-Ok-true : goal.returns-in-Ok-true
returns-in-Ok-true g c = λ given h.
    let right = rw (c.in-Ok-true.field-0-test, c.pred.ensures.value) at c.in-Ok-true.ensures.header in
    c.audit_rows.ensures given _ (subst (λ (rs : Records). HasTrace given (pred_of c.args.a.now.pred) (names_of c.args.t.now c.args.a.now.pred) rs
    c.args.trace.now) right h)

pub returns-in-Ok-false : goal.returns-in-Ok-false
returns-in-Ok-false g c = λ given h.
    let wrong = rw (c.in-Ok-false.field-0-test, c.pred.ensures.value) at c.in-Ok-false.ensures.header in
    header_carried given _ _ _ _ _ _ _ _ h wrong c.say.ensures
