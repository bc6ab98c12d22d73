use Rattle.std.proofs.Common.{ap, arith, get_or, max, refl, subst, ◌∙◌}
use Rattle.ln_tree.specs.Exps.{IsAbove, Pairs, exponent}
use Rattle.ln_poly.proofs.Packing.Fields.{largest-begin, largest-below, largest-end, largest-rising, largest-step}
use Rattle.ln_poly.proofs.fields.largest.Goals as goal

pub terms-init : goal.terms-init
terms-init c = largest-begin _ _ refl

pub terms-preserved : goal.terms-preserved
terms-preserved c =
    largest-step _ _ _ _ c.t-item.result c.terms.invariant (omega (arith, c.terms-test.true)) c.t-item.is
    (λ v k. c.raise.ensures.largest v k ∙ ap (λ (z : Pairs). max (exponent v z) (get_or c.terms.tops v 0)) c.pairs.ensures.value) c.raise.ensures.small
    (subst (λ (z : Pairs). IsAbove z 256) c.pairs.ensures.value c.raise.ensures.above) c.pairs.ensures.rising

pub returns-clause-value : goal.returns-clause-value
returns-clause-value c = largest-end _ _ _ (omega (arith, c.terms-test.false)) c.terms.invariant

pub returns-clause-below : goal.returns-clause-below
returns-clause-below c = largest-below _ _ _ (omega (arith, c.terms-test.false)) c.terms.invariant

pub returns-clause-rising : goal.returns-clause-rising
returns-clause-rising c = largest-rising _ _ _ (omega (arith, c.terms-test.false)) c.terms.invariant
