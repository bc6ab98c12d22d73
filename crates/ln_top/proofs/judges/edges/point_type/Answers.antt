use Rattle.std.proofs.Common.{refl}
use Rattle.ln_top.proofs.JudgesLemmas.EdgesLaws.{asked_three, type_few, type_given, type_within}
use Rattle.ln_top.proofs.FrameLemmas.ReadyLaws.{one_name}
use Rattle.ln_top.proofs.judges.edges.point_type.Goals as goal

pub type_number-kind-requires : goal.type_number-kind-requires
type_number-kind-requires c =
    rw c.pred.ensures.value (asked_three c.args.ready.now.compiled.table.preds _ _ _ c.requires.stands.stands.numbered
    (one_name _ _ _ c.requires.fit refl refl) c.named.ensures c.requires.suited)

pub type_at-requires : goal.type_at-requires
type_at-requires c =
    rw c.table.ensures (type_within c.args.ready.now.compiled.table _ _ _ c.named.ensures (rw c.pred.ensures.value at c.type_number-kind.ensures))

pub returns-clause-few : goal.returns-clause-few
returns-clause-few c = type_few c.args.ready.now.compiled.table _ _ (rw c.table.ensures at c.type_at.ensures)

pub returns-clause-is : goal.returns-clause-is
returns-clause-is c = λ g s.
    type_given c.args.ready.now g _ _ _ s (one_name _ _ _ c.requires.fit refl refl) c.named.ensures (rw c.pred.ensures.value at c.type_number-kind.ensures)
    (rw c.table.ensures at c.type_at.ensures)
