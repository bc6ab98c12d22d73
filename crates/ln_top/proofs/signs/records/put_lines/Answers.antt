use Rattle.std.proofs.Common.{sym, subst}
use Rattle.ln_tree.specs.Table.{pred_of}
use Rattle.ln_top.specs.Signs.Run.{HasRecords}
use Rattle.ln_top.proofs.SignsLemmas.FewRecords.{few_in}
use Rattle.ln_top.proofs.signs.records.put_lines.Goals as goal

pub put_from_header-requires : goal.put_from_header-requires
put_from_header-requires g c = record { few = few_in _ _ c.in_ok-rows.ensures.records c.requires.short }

pub returns : goal.returns
returns g c = λ given k h.
    c.put_from_header.ensures given k (subst (HasRecords given (pred_of (g.W.RecordWriter.over c.args.writer.now))
    (g.W.RecordWriter.columns c.args.writer.now)) (sym c.in_ok-rows.ensures.records) h)
