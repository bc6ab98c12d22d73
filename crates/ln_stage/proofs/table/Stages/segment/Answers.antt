use Rattle.std.proofs.Common.{◌≡◌, length}
use Rattle.ln_order.specs.Places.{order_places}
use Rattle.ln_stage.proofs.table.Stages.segment.Goals as goal

pub at_prefix-requires-clause-size : goal.at_prefix-requires-clause-size
at_prefix-requires-clause-size c =
    let s = c.self.inside in
    let e : length (order_places c.args.o.now) ≡ s.sites = rw (← c.self.view_is) at c.requires.order in
    rw (c.as_slice.ensures, e) c.self.invariant.each

pub returns : goal.returns
returns c =
    let s = c.self.inside in
    let e : length (order_places c.args.o.now) ≡ s.sites = rw (← c.self.view_is) at c.requires.order in
    rw (← c.self.view_is, ← e, ← c.as_slice.ensures) c.at_prefix.ensures
