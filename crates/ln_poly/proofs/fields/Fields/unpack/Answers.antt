use Rattle.std.proofs.Common.{FitsSigned, ℕ, [], ◌∷◌, ◌++◌, ◌∙◌, ap, arith, rules, subst, sym}
use Rattle.std.proofs.Math.IntN.{ℤ}
use Rattle.std.proofs.lemmas.Int.{to_z-of_z}
use Rattle.std.proofs.lemmas.List.{take_all}
use mir.Syntax.{w128}
use Rattle.ln_poly.specs.Packed.{AreSmall, taken, unkeyed, weights}
use Rattle.ln_poly.proofs.Packing.Whole.{unkeyed-next}
use Rattle.ln_poly.proofs.fields.Fields.unpack.Goals as goal

pub unpacked-requires : goal.unpacked-requires
unpacked-requires g c =
    let small = subst (λ (z : ℕ × ℤ). AreSmall (taken (weights c.args.self.now.shifts) z.0)) (sym c.t-item.is)
    (c.requires c.terms.t-index c.t-item.result (omega (arith, c.terms-test.true))) in
    (search rules, (search rules, small))

pub terms-init : goal.terms-init
terms-init g c = c.in_ok-out.ensures.items

pub offset_bounds-f-t-index : goal.offset_bounds-f-t-index
offset_bounds-f-t-index g c = omega (arith, c.terms-test.true)

pub bounds-f-t-index : goal.bounds-f-t-index
bounds-f-t-index g c = c.terms-test.true

pub terms-smaller : goal.terms-smaller
terms-smaller g c = omega (arith, c.terms-test.true)

pub terms-preserved : goal.terms-preserved
terms-preserved g c =
    let fits : FitsSigned w128 c.t-item.result.1 = search rules in
    let items = rw (to_z-of_z w128 c.t-item.result.1 fits) at c.in_ok-push.ensures.items in
    unkeyed-next (weights c.args.self.now.shifts) c.args.f.now c.terms.out.items _ c.terms.t-index c.t-item.result c.terms.invariant
    (omega (arith, c.terms-test.true)) c.t-item.is
    (items ∙ ap (λ z. c.terms.out.items ++ ((z, c.t-item.result.1) ∷ [])) c.in_ok-e.ensures)

pub returns : goal.returns
returns g c =
    c.terms.invariant ∙ ap (unkeyed (weights c.args.self.now.shifts)) (take_all c.terms.t-index c.args.f.now (omega (arith, c.terms-test.false)))
