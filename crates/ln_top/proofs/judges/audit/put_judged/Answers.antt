use Rattle.ln_top.proofs.JudgesLemmas.AuditLaws.{puts_text}
use Rattle.ln_top.proofs.judges.audit.put_judged.Goals as goal

pub returns : goal.returns
returns g c = puts_text _ _ _ _ _ _ _ c.in_ok-text.ensures (rw c.deref.ensures.value at c.put_text.ensures)
