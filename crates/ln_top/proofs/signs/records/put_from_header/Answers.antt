use Rattle.ln_top.specs.declared.frame.stop.Why.TheVariants.{Header}
use Rattle.std.proofs.Common.{◌≡◌, ◌∙◌, ◌∷◌, List, ℕ, ap, subst, sym}
use Rattle.ln_tree.specs.Table.{pred_of}
use Rattle.ln_top.proofs.FrameLemmas.Carry.{writes_carried}
use Rattle.ln_rows.specs.Header.{IsWrongHeader, names_of}
use Rattle.ln_top.specs.Signs.Rows.{header}
use Rattle.ln_top.specs.Signs.Run.{HasRecords}
use Rattle.ln_top.proofs.SignsLemmas.RowsLaws.{fewer}
use Rattle.ln_top.specs.Frame.Stop.{said_of}
use Rattle.ln_top.proofs.signs.records.put_from_header.Goals as goal

pub put_rows-requires : goal.put_rows-requires
put_rows-requires g c = record { few = fewer _ _ _ (rw c.in-Ok-true.field-0-test at c.in-Ok-true.ensures.header) c.requires.few }

pub returns-in-Ok-true : goal.returns-in-Ok-true
returns-in-Ok-true g c = λ given k h.
    let named = c.table.ensures ∙ ap (names_of c.table.result.now) (sym c.pred.ensures) in
    let right = subst (λ (ns : List (List ℕ)). c.args.rows.now ≡ ns ∷ c.header.new.self) (sym named)
    (rw c.in-Ok-true.field-0-test at c.in-Ok-true.ensures.header) in
    c.put_rows.ensures given k (subst (HasRecords given (pred_of (g.W.RecordWriter.over c.args.writer.now)) (g.W.RecordWriter.columns c.args.writer.now))
    right h)

pub returns-in-Ok-false : goal.returns-in-Ok-false
returns-in-Ok-false g c = λ given k h.
    let named = c.table.ensures ∙ ap (names_of c.table.result.now) (sym c.pred.ensures) in
    let wrong = subst (λ (ns : List (List ℕ)). IsWrongHeader ns c.args.rows.now) (sym named) (rw c.in-Ok-false.field-0-test at c.in-Ok-false.ensures.header) in
    writes_carried (said_of Header) (header _ _ _ h wrong) (λ r. r) (λ r. r.1) (λ r. r.1) c.say.ensures
