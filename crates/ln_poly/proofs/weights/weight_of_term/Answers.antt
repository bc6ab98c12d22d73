use Rattle.std.proofs.Common.{◌<◌, ap, arith, length}
use Rattle.ln_poly.proofs.Loads.Weighing.{size-at, weighed-heavy, weighed-step}
use Rattle.ln_poly.proofs.weights.weight_of_term.Goals as goal

pub scaled-requires-clause-some : goal.scaled-requires-clause-some
scaled-requires-clause-some c =
    let h : c.pairs.p-index < length c.args.t.now.0 = omega (arith, ap length c.pairs-p-items.ensures.value, c.pairs-test.true) in
    rw (c.grown.ensures, c.pairs-p-items.ensures.value) (size-at c.args.more _ _ _ h c.requires.below)

pub returns-in-None : goal.returns-in-None
returns-in-None c =
    let h : c.pairs.p-index < length c.args.t.now.0 = omega (arith, ap length c.pairs-p-items.ensures.value, c.pairs-test.true) in
    weighed-heavy c.args.more _ _ _ _ _ c.requires.below c.pairs.invariant h (rw (c.grown.ensures, c.pairs-p-items.ensures.value) at c.in-None.ensures)

pub pairs-preserved : goal.pairs-preserved
pairs-preserved c =
    let h : c.pairs.p-index < length c.args.t.now.0 = omega (arith, ap length c.pairs-p-items.ensures.value, c.pairs-test.true) in
    let e = rw (c.grown.ensures, c.pairs-p-items.ensures.value) at c.in-Some.ensures in
    weighed-step _ _ _ _ _ _ c.pairs.invariant h e.0 e.1
