use Rattle.ln_top.proofs.JudgesLemmas.AuditLaws.{agreed_carried, wrong_carried}
use Rattle.ln_top.proofs.judges.audit.audit_rows.Goals as goal

pub returns-in-Ok-Agreed : goal.returns-in-Ok-Agreed
returns-in-Ok-Agreed g c = λ given names h.
    agreed_carried h (rw c.in-Ok-Agreed.field-0-is at c.in-Ok-Agreed.ensures) c.put_judged.ensures

pub returns-in-Ok-Wrong : goal.returns-in-Ok-Wrong
returns-in-Ok-Wrong g c = λ given names h.
    wrong_carried h (rw c.in-Ok-Wrong.field-0-is at c.in-Ok-Wrong.ensures) c.put_judged-in-Ok-Wrong.ensures
