use Rattle.std.proofs.Common.{vec_len, ◌-◌}
use Rattle.ln_top.proofs.SignsLemmas.BoxLemmas.{Showing}
use Rattle.ln_top.proofs.signs.panel.Panel.show.Given as goal

abbrev pub invariant-boxes : goal.invariant-boxes
invariant-boxes g l =
    Showing (record {
      kind = λ b. (goal.Watch-dyn g (b.vtable, b.value)).kind_of b.value;
      tally = λ b. (goal.Watch-dyn g (b.vtable, b.value)).tally_of b.value;
    }) (record { row = l.row; verdict = l.v; port = l.port })
    (record {
      items = l.initial.self.watchers.items;
      streams = record { shown = g.C.Console.shown l.initial.con; faults = g.C.Console.faults l.initial.con };
    }) l.i
    (record { items = l.self.watchers.items; streams = record { shown = g.C.Console.shown l.con; faults = g.C.Console.faults l.con } })

abbrev pub decreases-boxes : goal.decreases-boxes
decreases-boxes g l = vec_len l.self.watchers - l.i
