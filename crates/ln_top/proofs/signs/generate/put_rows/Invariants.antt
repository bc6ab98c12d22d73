use Rattle.std.proofs.Common.{◌≤◌, ◌-◌}
use Rattle.ln_top.specs.Target.Target.{pred_in}
use Rattle.ln_code.specs.Memory.{MadeFor}
use Rattle.ln_watch.specs.Panel.{states_of}
use Rattle.ln_top.specs.Signs.Gen.{GenStep, draws}
use Rattle.ln_top.proofs.FrameLemmas.LinesLaws.{Writing}
use Rattle.ln_top.proofs.signs.generate.put_rows.Given as goal

abbrev pub invariant-rows : goal.invariant-rows
invariant-rows g l =
    Writing (GenStep (pred_in l.target))
    (record {
      state = states_of (λ b. (goal.Watch-dyn g (b.vtable, b.value)).kind_of b.value)
          (λ b. (goal.Watch-dyn g (b.vtable, b.value)).tally_of b.value) l.initial.panel.watchers.items;
      left = draws l.rows 0 l.target.pred.shape.vars l.initial.g;
      streams = record { shown = g.C.Console.shown l.initial.con; faults = g.C.Console.faults l.initial.con };
    })
    (record {
      state = states_of (λ b. (goal.Watch-dyn g (b.vtable, b.value)).kind_of b.value)
          (λ b. (goal.Watch-dyn g (b.vtable, b.value)).tally_of b.value) l.panel.watchers.items;
      left = draws (l.rows - l.n) l.n l.target.pred.shape.vars l.g;
      streams = record { shown = g.C.Console.shown l.con; faults = g.C.Console.faults l.con };
    })
    × MadeFor l.target.program l.s × (l.n ≤ l.rows)

abbrev pub decreases-rows : goal.decreases-rows
decreases-rows g l = l.rows - l.n
