use Rattle.std.proofs.Common.{FitsSigned, [], ◌∷◌, ◌++◌, ◌∙◌, ap, ◌<◌, arith, rules, subst, sym}
use Rattle.std.proofs.Math.IntN.{ℤ}
use Rattle.std.proofs.lemmas.Int.{to_z-of_z}
use Rattle.std.proofs.lemmas.List.{take_all}
use mir.Syntax.{w128}
use Rattle.ln_tree.specs.Exps.{Pairs}
use Rattle.ln_poly.specs.Packed.{keyed, packed, weights}
use Rattle.ln_poly.specs.Words.{half}
use Rattle.ln_poly.proofs.Packing.Fields.{keyed-at}
use Rattle.ln_poly.proofs.Packing.Whole.{keyed-next}
use Rattle.ln_poly.proofs.fields.Fields.pack.Goals as goal

pub packed-requires : goal.packed-requires
packed-requires g c =
    let low = subst (λ (z : Pairs × ℤ). packed (weights c.args.self.now.shifts) z.0 < half g.row.N) (sym c.t-item.is)
    (keyed-at (weights c.args.self.now.shifts) c.args.f.now c.terms.t-index (half g.row.N) c.t-item.result (omega (arith, c.terms-test.true)) c.requires) in
    (search rules, (omega (arith, c.args.self.now.few), (rw c.pairs.ensures.value c.pairs.ensures.rising, rw c.pairs.ensures.value low)))

pub terms-init : goal.terms-init
terms-init g c = c.in_ok-out.ensures.items

pub offset_bounds-f-t-index : goal.offset_bounds-f-t-index
offset_bounds-f-t-index g c = omega (arith, c.terms-test.true)

pub bounds-f-t-index : goal.bounds-f-t-index
bounds-f-t-index g c = c.terms-test.true

pub terms-smaller : goal.terms-smaller
terms-smaller g c = omega (arith, c.terms-test.true)

pub terms-preserved : goal.terms-preserved
terms-preserved g c =
    let fits : FitsSigned w128 c.t-item.result.1 = search rules in
    let items = rw (to_z-of_z w128 c.t-item.result.1 fits) at c.in_ok-push.ensures.items in
    let e = c.packed.ensures ∙ ap (packed (weights c.args.self.now.shifts)) c.pairs.ensures.value in
    keyed-next (weights c.args.self.now.shifts) c.args.f.now c.terms.out.items _ c.terms.t-index c.t-item.result c.terms.invariant
    (omega (arith, c.terms-test.true)) c.t-item.is
    (items ∙ ap (λ z. c.terms.out.items ++ ((z, c.t-item.result.1) ∷ [])) e)

pub returns : goal.returns
returns g c =
    c.terms.invariant ∙ ap (keyed (weights c.args.self.now.shifts)) (take_all c.terms.t-index c.args.f.now (omega (arith, c.terms-test.false)))
