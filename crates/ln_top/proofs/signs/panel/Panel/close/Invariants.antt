use Rattle.ln_top.proofs.SignsLemmas.BoxLemmas.{Closing}
use Rattle.ln_top.proofs.signs.panel.Panel.close.Given as goal

abbrev pub invariant-boxes : goal.invariant-boxes
invariant-boxes g l =
    Closing (record {
      kind = λ b. (goal.Watch-dyn g (b.vtable, b.value)).kind_of b.value;
      tally = λ b. (goal.Watch-dyn g (b.vtable, b.value)).tally_of b.value;
    }) l.port l.watcher-items l.watcher-index
    (record { shown = g.C.Console.shown l.initial.con; faults = g.C.Console.faults l.initial.con })
    (record { shown = g.C.Console.shown l.con; faults = g.C.Console.faults l.con })
