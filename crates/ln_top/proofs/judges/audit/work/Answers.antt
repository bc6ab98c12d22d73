use Rattle.std.proofs.Common.{refl}
use Rattle.ln_top.proofs.JudgesLemmas.AuditLaws.{has_trace}
use Rattle.ln_top.proofs.FrameLemmas.ReadyLaws.{one_name, second_short}
use Rattle.ln_top.proofs.judges.audit.work.Goals as goal

pub audit_records-ended-requires : goal.audit_records-ended-requires
audit_records-ended-requires g c =
    let ready = c.requires.stands in second_short _ _ _ (c.two_texts.ensures ready.given ready.stands) ready.short

pub returns : goal.returns
returns g c = λ given s.
    let said = rw c.table-table.ensures at c.audit_records-ended.ensures in
    said given
    (has_trace c.args.ready.now given c.named.result.pred _ _ _ s (one_name _ _ _ c.requires.fit refl refl) c.named.ensures (c.two_texts.ensures given s)
    c.in_ok-rows.ensures.records)
