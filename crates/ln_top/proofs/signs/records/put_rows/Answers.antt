use Rattle.std.proofs.Common.{refl}
use Rattle.ln_tree.specs.Table.{pred_of}
use Rattle.ln_top.proofs.FrameLemmas.LinesLaws.{sends_ran}
use Rattle.ln_top.proofs.FrameLemmas.LinesCarry.{early_carried, closes_carried}
use Rattle.ln_top.proofs.SignsLemmas.RowsLaws.{by_lines, headed}
use Rattle.ln_top.proofs.FrameLemmas.HeadCarry.{head_carried, head_cut}
use Rattle.ln_top.proofs.signs.records.put_rows.Goals as goal

pub returns-then-not-put_out : goal.returns-then-not-put_out
returns-then-not-put_out g c = λ given k h.
    head_cut (headed (g.W.RecordWriter.begins c.args.writer.now) (g.W.RecordWriter.line c.args.writer.now given.preds)
    (pred_of (g.W.RecordWriter.over c.args.writer.now)) (g.W.RecordWriter.columns c.args.writer.now) (c.make_room.ensures.has given.preds k) _ given _ h)
    (rw c.head.ensures at c.if-not-put_out.ensures)

pub returns-in-Ok : goal.returns-in-Ok
returns-in-Ok g c = λ given k h.
    let sends = rw c.deref.ensures.value at c.in-Ok.ensures in
    let from = rw c.new-panel.ensures at (c.put_records-ran.ensures given.preds k) in
    head_carried (headed (g.W.RecordWriter.begins c.args.writer.now) (g.W.RecordWriter.line c.args.writer.now given.preds)
    (pred_of (g.W.RecordWriter.over c.args.writer.now)) (g.W.RecordWriter.columns c.args.writer.now) (c.make_room.ensures.has given.preds k) _ given _ h)
    (rw c.head.ensures at c.if-not-put_out.ensures)
    (closes_carried (by_lines (g.W.RecordWriter.begins c.args.writer.now) (g.W.RecordWriter.line c.args.writer.now given.preds)
    (pred_of (g.W.RecordWriter.over c.args.writer.now)) (g.W.RecordWriter.columns c.args.writer.now) (c.make_room.ensures.has given.preds k) _ given _ h)
    (sends_ran from sends) (record { silent = refl; closes = c.close_after.ensures }))

pub returns : goal.returns
returns g c = λ given k h.
    let sends = rw c.deref.ensures.value at c.in-Err.ensures in
    let from = rw c.new-panel.ensures at (c.put_records-ran.ensures given.preds k) in
    head_carried (headed (g.W.RecordWriter.begins c.args.writer.now) (g.W.RecordWriter.line c.args.writer.now given.preds)
    (pred_of (g.W.RecordWriter.over c.args.writer.now)) (g.W.RecordWriter.columns c.args.writer.now) (c.make_room.ensures.has given.preds k) _ given _ h)
    (rw c.head.ensures at c.if-not-put_out.ensures)
    (early_carried (by_lines (g.W.RecordWriter.begins c.args.writer.now) (g.W.RecordWriter.line c.args.writer.now given.preds)
    (pred_of (g.W.RecordWriter.over c.args.writer.now)) (g.W.RecordWriter.columns c.args.writer.now) (c.make_room.ensures.has given.preds k) _ given _ h)
    (sends_ran from sends))
