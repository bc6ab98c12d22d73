use Rattle.std.proofs.Common.{rules}
use Rattle.ln_top.proofs.SignsLemmas.BoxLemmas.{on_err, closes, cut_at}
use Rattle.ln_top.proofs.signs.panel.Panel.close.Goals as goal

pub returns-in_err-put_line-clause-cut : goal.returns-in_err-put_line-clause-cut
returns-in_err-put_line-clause-cut g c =
    on_err _ (rw c.as_slice-watcher-items.ensures.value at
    (cut_at c.boxes.invariant (record { within = search rules; is = c.watcher-item.is }) c.in_err-put_line.ensures.err))

pub boxes-preserved : goal.boxes-preserved
boxes-preserved g c =
    closes c.boxes.invariant (record { within = search rules; is = c.watcher-item.is })
    (c.in_ok-put_line.ensures.ok, c.in_ok-put_line.ensures.fine)
