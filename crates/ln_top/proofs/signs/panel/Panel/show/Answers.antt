use Rattle.std.proofs.Common.{rules}
use Rattle.ln_top.proofs.SignsLemmas.BoxLemmas.{on_err, stays, leaves, stopped}
use Rattle.ln_top.proofs.signs.panel.Panel.show.Goals as goal

pub boxes-preserved-in-Stay : goal.boxes-preserved-in-Stay
boxes-preserved-in-Stay g c =
    stays c.boxes.invariant (record {
      old = _;
      new = c.see.new.watcher;
      place = record { within = search rules; is = c.index_mut.ensures.value };
      kind = c.in-Stay.ensures.kind;
      tally = c.in-Stay.ensures.tally;
      keeps = c.in-Stay.ensures.keep;
    })

pub returns-in_err-put_line-in-Done-clause-stops : goal.returns-in_err-put_line-in-Done-clause-stops
returns-in_err-put_line-in-Done-clause-stops g c =
    on_err _ (stopped c.boxes.invariant (record {
      old = _;
      new = c.see.new.watcher;
      place = record { within = search rules; is = c.index_mut.ensures.value };
      kind = c.in-Done.ensures.kind;
      tally = c.in-Done.ensures.tally;
      keeps = c.in-Done.ensures.keep;
    }) (record { done = c.remove-done.result; is = c.remove-done.ensures.value; rest_is = c.remove-done.ensures.items })
    c.in_err-put_line-in-Done.ensures.err)

pub boxes-preserved : goal.boxes-preserved
boxes-preserved g c =
    leaves c.boxes.invariant (record {
      old = _;
      new = c.see.new.watcher;
      place = record { within = search rules; is = c.index_mut.ensures.value };
      kind = c.in-Done.ensures.kind;
      tally = c.in-Done.ensures.tally;
      keeps = c.in-Done.ensures.keep;
    }) (record { done = c.remove-done.result; is = c.remove-done.ensures.value; rest_is = c.remove-done.ensures.items })
    c.in_ok-put_line-in-Done.ensures.ok c.in_ok-put_line-in-Done.ensures.fine
