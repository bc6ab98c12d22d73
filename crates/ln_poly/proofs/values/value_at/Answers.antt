use Rattle.std.proofs.Common.{FitsSigned, to_z, ◌<◌, ◌≤◌, arith, rules, length, subst, sym}
use Rattle.std.proofs.lemmas.Int.{to_z-of_z}
use Rattle.std.proofs.Math.IntN.{ℤ, ◌+ℤ◌}
use mir.Syntax.{w128}
use Rattle.ln_bound.specs.Light.{most}
use Rattle.ln_bound.specs.Value.{weights}
use Rattle.ln_interval.proofs.Ends.{fit}
use Rattle.ln_tree.specs.Exps.{IsAbove, IsRising, Pairs}
use Rattle.ln_tree.specs.Row.{values}
use Rattle.ln_poly.specs.Sparse.{AreBelow, AreRising}
use Rattle.ln_poly.specs.Weight.{total_weight}
use Rattle.ln_poly.proofs.Loads.Weighing.{total-weight}
use Rattle.ln_poly.proofs.Evaluations.Summing.{sum-fits, summed-begin, summed-end, summed-on, term-light}
use Rattle.ln_poly.proofs.values.value_at.Goals as goal

pub terms-init : goal.terms-init
terms-init c =
    let w : total_weight (weights c.args.s.now.vars) c.args.f.now ≤ most =
    omega (arith, total-weight (weights c.args.s.now.vars) (length c.args.s.now.vars) c.args.f.now c.requires.below, c.requires.light) in
    summed-begin c.args.s.now.vars (values c.args.row.now) c.args.a.now c.terms-terms.result.now (rw c.terms-terms.ensures.value w)

pub term-sum-requires-clause-light : goal.term-sum-requires-clause-light
term-sum-requires-clause-light c = term-light (weights c.args.s.now.vars) c.terms-terms.result.now c.terms.t-index c.t-item.result _
    (omega (arith, c.terms-test.true)) c.t-item.is c.terms.invariant.room

pub overflow_add-sum : goal.overflow_add-sum
overflow_add-sum c =
    let fr : FitsSigned w128 c.term-sum.result = search rules in
    rw (to_z-of_z w128 c.term-sum.result fr) (fit _ (sum-fits c.args.s.now.vars (values c.args.row.now) c.args.a.now c.terms-terms.result.now
    _ c.terms.t-index c.t-item.result (omega (arith, c.terms-test.true)) c.t-item.is c.terms.invariant c.term-sum.result c.term-sum.ensures.small))

pub terms-preserved : goal.terms-preserved
terms-preserved c =
    let f = c.terms-terms.result.now in
    let there : c.terms.t-index < length f = omega (arith, c.terms-test.true) in
    let fr : FitsSigned w128 c.term-sum.result = search rules in
    let g : FitsSigned w128 (to_z w128 c.terms.sum-bits +ℤ c.term-sum.result) = fit _ (sum-fits c.args.s.now.vars (values c.args.row.now)
    c.args.a.now f _ c.terms.t-index c.t-item.result there c.t-item.is c.terms.invariant c.term-sum.result c.term-sum.ensures.small) in
    let all : AreRising f = rw c.terms-terms.ensures.value c.terms-terms.ensures.form.rising in
    let below : AreBelow (length c.args.s.now.vars) f = rw c.terms-terms.ensures.value c.requires.below in
    let rising : IsRising c.t-item.result.0 = subst (λ (y : Pairs × ℤ). IsRising y.0) (sym c.t-item.is) (all c.terms.t-index c.t-item.result there) in
    let above : IsAbove c.t-item.result.0 (length c.args.s.now.vars) =
    subst (λ (y : Pairs × ℤ). IsAbove y.0 (length c.args.s.now.vars)) (sym c.t-item.is) (below c.terms.t-index c.t-item.result there) in
    rw (to_z-of_z w128 c.term-sum.result fr, to_z-of_z w128 (to_z w128 c.terms.sum-bits +ℤ c.term-sum.result) g)
    (summed-on c.args.s.now.vars (values c.args.row.now) c.args.a.now f _ c.terms.t-index c.t-item.result there c.t-item.is
    c.terms.invariant c.term-sum.result rising above c.term-sum.ensures.value c.term-sum.ensures.small)

pub returns : goal.returns
returns c =
    let r = summed-end c.args.s.now.vars (values c.args.row.now) c.args.a.now c.terms-terms.result.now _ c.terms.t-index
    (omega (arith, c.terms-test.false)) c.terms.invariant in
    rw c.terms-terms.ensures.value at r
