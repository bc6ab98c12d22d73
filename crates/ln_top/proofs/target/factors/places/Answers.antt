use Rattle.std.proofs.lemmas.List.{take_all}
use Rattle.ln_top.proofs.TargetLemmas.FactorsLaws.{stand_next}
use Rattle.ln_top.proofs.target.factors.places.Goals as goal

pub each-init : goal.each-init
each-init c = rw (c.new-numbers.ensures.items, c.new-which.ensures.items, c.requires.none) (tt, tt)

pub place-requires-clause-within : goal.place-requires-clause-within
place-requires-clause-within c = c.requires.within c.each.i-index 0 c.each-test.true

pub place-requires-clause-made : goal.place-requires-clause-made
place-requires-clause-made c = c.each.invariant.0

pub each-preserved : goal.each-preserved
each-preserved c = (
  c.in_ok-k.ensures.made,
  stand_next c.each.numbers.items c.place.new.numbers.items c.each.which.items c.push.new.self.items c.args.wanted.now
      c.each.i-index c.in_ok-k.k c.each.invariant.1 c.in_ok-k.ensures.grows c.in_ok-k.ensures.there c.each-test.true
      c.in_ok-push.ensures.items,
)

pub returns : goal.returns
returns c = record {
  numbers = c.each.numbers.items;
  made = c.each.invariant.0;
  stand = rw (take_all _ c.args.wanted.now c.each-test.false) at c.each.invariant.1;
}
