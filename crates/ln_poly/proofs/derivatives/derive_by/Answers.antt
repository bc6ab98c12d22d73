use Rattle.std.proofs.Common.{◌∙◌, arith, length, subst}
use Rattle.std.proofs.lemmas.List.{take_all}
use Rattle.std.proofs.lemmas.Result.{IfOk-weaker}
use Rattle.ln_tree.specs.Exps.{IsAbove, IsRising, Pairs}
use Rattle.ln_poly.specs.Derivative.{IsDerivative}
use Rattle.ln_poly.proofs.Derivations.Several.{first-light, first-step, no-length, none-derived, several-light, several-step, some-length}
use Rattle.ln_poly.proofs.Loads.Weighing.{variable-at}
use Rattle.ln_poly.proofs.derivatives.derive_by.Goals as goal

pub returns-then-is_empty-clause-derivative : goal.returns-then-is_empty-clause-derivative
returns-then-is_empty-clause-derivative c =
    IfOk-weaker c.copy.result _ _ (λ h k. none-derived _ _ _ _ _ c.requires.form c.requires.below k
    (no-length _ _ c.is_empty.ensures c.if-is_empty.true) c.pairs-pairs.ensures.value) c.copy.ensures

pub derive-requires-clause-variable : goal.derive-requires-clause-variable
derive-requires-clause-variable c =
    let a : IsAbove c.pairs-pairs.result.now (length c.args.s.now.vars) = rw c.pairs-pairs.ensures.value c.requires.exps in
    variable-at (length c.args.s.now.vars) c.pairs-pairs.result.now 0 a (some-length _ _ c.is_empty.ensures c.if-is_empty.false)

pub derive-requires-clause-small : goal.derive-requires-clause-small
derive-requires-clause-small c =
    let r : IsRising c.pairs-pairs.result.now = rw c.pairs-pairs.ensures.value c.pairs-pairs.ensures.rising in
    first-light c.args.s.now.vars c.args.f.now c.pairs-pairs.result.now c.requires.form c.requires.below r
    (some-length _ _ c.is_empty.ensures c.if-is_empty.false) c.requires.weight

pub pairs-init : goal.pairs-init
pairs-init c =
    let r : IsRising c.pairs-pairs.result.now = rw c.pairs-pairs.ensures.value c.pairs-pairs.ensures.rising in
    let e = c.in_ok-h.ensures in
    first-step (length c.args.s.now.vars) c.args.f.now c.in_ok-h.h c.pairs-pairs.result.now c.requires.form c.requires.below r
    (some-length _ _ c.is_empty.ensures c.if-is_empty.false) e.form e.below e.coefficients

pub derive-requires-in-pairs-clause-variable : goal.derive-requires-in-pairs-clause-variable
derive-requires-in-pairs-clause-variable c =
    let a : IsAbove c.pairs-pairs.result.now (length c.args.s.now.vars) = rw c.pairs-pairs.ensures.value c.requires.exps in
    variable-at (length c.args.s.now.vars) c.pairs-pairs.result.now c.pairs.i a (omega (arith, c.pairs-test.true))

pub derive-requires-in-pairs-clause-small : goal.derive-requires-in-pairs-clause-small
derive-requires-in-pairs-clause-small c =
    let r : IsRising c.pairs-pairs.result.now = rw c.pairs-pairs.ensures.value c.pairs-pairs.ensures.rising in
    several-light c.args.s.now.vars c.args.f.now c.pairs.h c.pairs-pairs.result.now c.pairs.i r
    (omega (arith, c.pairs-test.true)) c.pairs.invariant c.requires.weight

pub pairs-preserved : goal.pairs-preserved
pairs-preserved c =
    let r : IsRising c.pairs-pairs.result.now = rw c.pairs-pairs.ensures.value c.pairs-pairs.ensures.rising in
    let e = c.in_ok-h-2.ensures in
    several-step (length c.args.s.now.vars) c.args.f.now c.pairs.h c.pairs-pairs.result.now c.pairs.i r
    (omega (arith, c.pairs-test.true)) c.pairs.invariant c.in_ok-h-2.h e.form e.below e.coefficients

pub bounds-pairs-0 : goal.bounds-pairs-0
bounds-pairs-0 c = some-length _ _ c.is_empty.ensures c.if-is_empty.false

pub bounds-pairs-0-2 : goal.bounds-pairs-0-2
bounds-pairs-0-2 c = some-length _ _ c.is_empty.ensures c.if-is_empty.false

pub returns-then-is_empty-clause-rising : goal.returns-then-is_empty-clause-rising
returns-then-is_empty-clause-rising c = IfOk-weaker c.copy.result _ _ (λ _ _. c.pairs-pairs.ensures.rising) c.copy.ensures

pub derive-requires-clause-below : goal.derive-requires-clause-below
derive-requires-clause-below c = c.requires.below

pub offset_bounds-pairs-i : goal.offset_bounds-pairs-i
offset_bounds-pairs-i c = omega (arith, c.pairs-test.true)

pub bounds-pairs-i : goal.bounds-pairs-i
bounds-pairs-i c = c.pairs-test.true

pub derive-requires-in-pairs-clause-below : goal.derive-requires-in-pairs-clause-below
derive-requires-in-pairs-clause-below c = c.pairs.invariant.below

pub pairs-smaller : goal.pairs-smaller
pairs-smaller c = omega (arith, c.pairs-test.true)

pub returns-clause-derivative : goal.returns-clause-derivative
returns-clause-derivative c =
    subst (λ (z : Pairs). IsDerivative (length c.args.s.now.vars) c.args.f.now z c.pairs.h)
    (take_all c.pairs.i c.pairs-pairs.result.now (omega (arith, c.pairs-test.false)) ∙ c.pairs-pairs.ensures.value) c.pairs.invariant

pub returns-clause-rising : goal.returns-clause-rising
returns-clause-rising c = c.pairs-pairs.ensures.rising
