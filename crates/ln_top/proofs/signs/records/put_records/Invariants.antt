use Rattle.std.proofs.Common.{length, List, ◌≡◌, ◌+◌}
use Rattle.std.specs.Prelude.{vec_capacity}
use Rattle.ln_top.specs.Target.Line.{is_row}
use Rattle.ln_top.specs.Signs.Watching.{watching}
use Rattle.ln_watch.specs.Panel.{states_of}
use Rattle.ln_top.proofs.FrameLemmas.LinesLaws.{Running}
use Rattle.ln_tree.specs.Table.{PredOf, pred_of}
use Rattle.ln_top.specs.Signs.Rows.{RowStep}
use Rattle.ln_top.proofs.signs.records.put_records.Given as goal

abbrev pub invariant-rows : goal.invariant-rows
invariant-rows g l =
    ((ps : List PredOf) → g.W.RecordWriter.knows l.writer ps
    → Running (record {
      step = RowStep (g.W.RecordWriter.line l.writer ps (pred_of (g.W.RecordWriter.over l.writer)) (g.W.RecordWriter.columns l.writer));
      good = is_row (pred_of (g.W.RecordWriter.over l.writer));
    })
    (record {
      state = watching l.initial.viewers.seen (states_of (λ b. (goal.Watch-dyn g (b.vtable, b.value)).kind_of b.value)
          (λ b. (goal.Watch-dyn g (b.vtable, b.value)).tally_of b.value) l.initial.viewers.panel.watchers.items);
      left = l.initial.rows;
      streams = record { shown = g.C.Console.shown l.initial.con; faults = g.C.Console.faults l.initial.con };
    })
    (record {
      at = record {
        state = watching l.viewers.seen (states_of (λ b. (goal.Watch-dyn g (b.vtable, b.value)).kind_of b.value)
            (λ b. (goal.Watch-dyn g (b.vtable, b.value)).tally_of b.value) l.viewers.panel.watchers.items);
        held = l.text.items;
        streams = record { shown = g.C.Console.shown l.con; faults = g.C.Console.faults l.con };
      };
      left = l.rows;
      good = l.good;
    }))
    × g.W.RecordWriter.fits l.writer l.room × g.W.RecordWriter.space l.writer (vec_capacity l.text)
    × (l.viewers.seen + length l.rows ≡ l.initial.viewers.seen + length l.initial.rows)

abbrev pub decreases-rows : goal.decreases-rows
decreases-rows g l = length l.rows
