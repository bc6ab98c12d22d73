use Rattle.std.proofs.Common.{◌∙◌, arith, length}
use Rattle.ln_bound.specs.Value.{sizes}
use Rattle.ln_poly.proofs.Derivations.Deriving.{AreDerived, deriving-end, deriving-init, deriving-room, deriving-step}
use Rattle.ln_poly.proofs.Derivations.Lowering.{in-reach}
use Rattle.ln_poly.proofs.derivatives.derive.Goals as goal

pub terms-init : goal.terms-init
terms-init c = rw c.new-out.ensures.items (deriving-init _ _ _ _ _)

pub put_derived-requires-clause-room : goal.put_derived-requires-clause-room
put_derived-requires-clause-room c = deriving-room c.args.s.now.vars _ c.args.f.now _ c.args.v c.args.n c.terms.t-index c.t-item.result
    c.terms-f.ensures.value c.requires.variable c.requires.small (omega arith) c.t-item.is c.terms.invariant

pub terms-preserved : goal.terms-preserved
terms-preserved c = deriving-step c.args.s.now.vars _ c.args.f.now _ _ c.args.v c.args.n c.terms.t-index
    c.t-item.result c.terms-f.ensures.value c.requires.variable c.terms-f.ensures.form c.requires.below
    (omega arith) c.t-item.is c.terms.invariant c.in_ok-put_derived.ensures.none c.in_ok-put_derived.ensures.some

pub nonzero-h-requires-clause-small : goal.nonzero-h-requires-clause-small
nonzero-h-requires-clause-small c =
    let d : AreDerived c.terms.out.items c.args.f.now (length c.args.s.now.vars) c.args.v c.args.n (sizes c.args.s.now.vars) =
    deriving-end _ _ _ _ _ _ _ _ c.terms-f.ensures.value c.terms-test.false c.terms.invariant in
    omega (arith, d.size, c.requires.small)

pub returns-clause-coefficients : goal.returns-clause-coefficients
returns-clause-coefficients c =
    let d : AreDerived c.terms.out.items c.args.f.now (length c.args.s.now.vars) c.args.v c.args.n (sizes c.args.s.now.vars) =
    deriving-end _ _ _ _ _ _ _ _ c.terms-f.ensures.value c.terms-test.false c.terms.invariant in
    λ m. c.nonzero-h.ensures.coefficients (length c.args.s.now.vars) m ∙ d.coefficients m

pub offset_bounds-f-t-index : goal.offset_bounds-f-t-index
offset_bounds-f-t-index c = omega (arith, c.terms-test.true)

pub bounds-f-t-index : goal.bounds-f-t-index
bounds-f-t-index c = omega (arith, c.terms-test.true)

pub terms-smaller : goal.terms-smaller
terms-smaller c = omega (arith, c.terms-test.true)

pub put_derived-requires-clause-column : goal.put_derived-requires-clause-column
put_derived-requires-clause-column c = in-reach c.terms-f.result.now c.column-column.result c.args.v c.args.n c.reach.result c.terms.t-index
    c.t-item.result c.column-column.ensures c.reach.ensures.each (omega arith) c.t-item.is

pub nonzero-h-requires-clause-rising : goal.nonzero-h-requires-clause-rising
nonzero-h-requires-clause-rising c = c.terms.invariant.rising

pub nonzero-h-requires-clause-sorted : goal.nonzero-h-requires-clause-sorted
nonzero-h-requires-clause-sorted c = c.terms.invariant.sorted

pub returns-clause-form : goal.returns-clause-form
returns-clause-form c = c.nonzero-h.ensures.form

pub returns-clause-below : goal.returns-clause-below
returns-clause-below c = c.nonzero-h.ensures.below _ c.terms.invariant.below
