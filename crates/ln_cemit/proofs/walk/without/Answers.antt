-- Answers to the goals of `without` in src/walk.rt.
use Rattle.std.proofs.Common.{arith}
use Rattle.ln_cemit.specs.Walked.{without}
use Rattle.ln_cemit.proofs.Writing.Gathers.{kept_all, keeps}
use Rattle.ln_cemit.proofs.walk.without.Goals as goal

pub places-preserved : goal.places-preserved
places-preserved c = keeps c.args.place c.places.others.items c.keep.new.others.items
    (without c.args.place c.args.places.now) c.args.places.now c.places.p-index _ c.places-test.true c.in_ok-keep.ensures c.places.invariant

pub returns : goal.returns
returns c = kept_all c.args.place c.places.others.items (without c.args.place c.args.places.now) c.args.places.now c.places.p-index
    (omega arith) c.places.invariant
