use Rattle.std.proofs.Common.{◌≡◌, ◌+◌, arith, refl}
use Rattle.ln_stage.proofs.Walks.StartLemmas.{range-more}
use Rattle.ln_stage.proofs.visits.places.Goals as goal

pub places-preserved : goal.places-preserved
places-preserved c =
    let e : 0 + c.places.i ≡ c.places.i = omega arith in
    rw (c.in_ok-push.ensures.items, c.places.invariant, range-more 0 c.places.i, e) refl
