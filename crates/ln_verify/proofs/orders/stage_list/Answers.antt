-- Answers to the goals of `stage_list` in src/orders.rt.
use Rattle.std.proofs.Common.{ℕ, take}
use Rattle.ln_order.specs.Places.{order_places}
use Rattle.ln_stage.specs.Staged.{segment_of}
use Rattle.ln_verify.proofs.Judging.Wholes.{list-more}
use Rattle.ln_verify.proofs.orders.stage_list.Goals as goal

pub places-preserved : goal.places-preserved
places-preserved c = list-more (λ (i : ℕ). segment_of c.args.st.now (take i (order_places c.args.o.now))) c.places.j c.places.out.items
    c.extend_from_slice.new.self.items c.segment.result.now c.places.invariant c.in_ok-extend_from_slice.ensures.items c.segment.ensures
