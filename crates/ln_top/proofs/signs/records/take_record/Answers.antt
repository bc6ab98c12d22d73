use Rattle.std.proofs.Common.{refl}
use Rattle.ln_tree.specs.Table.{pred_of}
use Rattle.ln_top.proofs.SignsLemmas.RowsLaws.{takes_all, takes_cut}
use Rattle.ln_top.proofs.signs.records.take_record.Goals as goal

pub returns-then-not-view-clause-takes : goal.returns-then-not-view-clause-takes
returns-then-not-view-clause-takes g c fields r ps k =
    let l = c.in_ok-shown.ensures.line fields r ps k in
    takes_cut (g.W.RecordWriter.line c.args.writer.now ps) (pred_of (g.W.RecordWriter.over c.args.writer.now)) (g.W.RecordWriter.columns c.args.writer.now)
    l.1 l.2 c.if-not-view.ensures.wrote

pub returns-clause-takes : goal.returns-clause-takes
returns-clause-takes g c fields r ps k =
    let l = c.in_ok-shown.ensures.line fields r ps k in
    takes_all (g.W.RecordWriter.line c.args.writer.now ps) (pred_of (g.W.RecordWriter.over c.args.writer.now)) (g.W.RecordWriter.columns c.args.writer.now)
    l.1 l.2 c.if-not-view.ensures.wrote (c.if-not-view.ensures.left refl)
    (c.is_good-good.ensures (g.W.RecordWriter.over c.args.writer.now) fields c.args.found.row.now r)
