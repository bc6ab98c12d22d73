use Rattle.std.proofs.lemmas.Result.{IfOk-weaker}
use Rattle.ln_top.proofs.JudgesLemmas.AuditLaws.{opened_judged}
use Rattle.ln_top.proofs.judges.audit.audited.Goals as goal

pub returns-in-Ok : goal.returns-in-Ok
returns-in-Ok c = IfOk-weaker c.judged.result _ _ (λ j h. opened_judged _ _ _ _ j c.in-Ok.ensures.ok h) c.judged.ensures
