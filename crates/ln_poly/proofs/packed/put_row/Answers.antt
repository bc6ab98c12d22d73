use Rattle.std.proofs.Common.{ℕ, FitsSigned, ◌<◌, arith, length, refl, rules, subst, sym}
use Rattle.std.proofs.Math.IntN.{ℤ}
use Rattle.std.proofs.lemmas.Int.{to_z-of_z}
use mir.Syntax.{w128}
use Rattle.ln_poly.specs.Words.{half}
use Rattle.ln_poly.proofs.Packing.Loops.{place-fits, product-room, row-end, row-next}
use Rattle.ln_poly.proofs.Packing.Words.{half-sum}
use Rattle.ln_poly.proofs.packed.put_row.Goals as goal

pub sum-requires : goal.sum-requires
sum-requires g c = (
  search rules,
  half-sum g.row.N c.args.s.now.0 c.index-g-i.result.0 c.requires.low (subst (λ (z : ℕ × ℤ). z.0 < half g.row.N) (sym c.index-g-i.is)
      (c.requires.low_all c.terms.i c.index-g-i.result (omega (arith, c.terms-test.true)))),
)

pub product_of-requires : goal.product_of-requires
product_of-requires g c =
    (search rules, product-room c.args.g.now c.terms.i c.args.s.now _ c.index-g-i.is (omega (arith, c.terms-test.true)) c.requires.room)

pub terms-init : goal.terms-init
terms-init g c = (refl, refl)

pub offset_bounds-g-i : goal.offset_bounds-g-i
offset_bounds-g-i g c = omega (arith, c.terms-test.true)

pub bounds-g-i : goal.bounds-g-i
bounds-g-i g c = c.terms-test.true

pub bounds-out-i : goal.bounds-out-i
bounds-out-i g c = omega (arith, c.terms-test.true, c.requires.long, c.terms.invariant.1)

pub terms-smaller : goal.terms-smaller
terms-smaller g c = omega (arith, c.terms-test.true)

pub returns-clause-long : goal.returns-clause-long
returns-clause-long g c = c.terms.invariant.1

pub terms-preserved : goal.terms-preserved
terms-preserved g c =
    let fits : FitsSigned w128 c.product_of.result = search rules in
    rw (to_z-of_z w128 c.product_of.result fits) (row-next c.args.out.now c.terms.out c.args.g.now c.args.s.now c.index-g-i.result
    (c.sum.result, c.product_of.result) c.terms.i c.terms.invariant c.index-g-i.is (omega (arith, c.terms-test.true)) c.requires.long
    (rw (c.sum.ensures, c.product_of.ensures) refl))

pub returns-clause-row : goal.returns-clause-row
returns-clause-row g c =
    row-end c.terms.out c.args.g.now c.args.s.now c.terms.i c.terms.invariant.0 (omega (arith, c.terms-test.false, c.terms.auto.i-end))

pub offset_bounds-out-i : goal.offset_bounds-out-i
offset_bounds-out-i g c =
    place-fits c.terms.i (length c.args.out.now) _ (omega (arith, c.terms-test.true, c.requires.long)) c.well_formed.0.1
