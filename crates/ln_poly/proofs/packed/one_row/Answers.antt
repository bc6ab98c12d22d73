use Rattle.std.proofs.Common.{ℕ, ◌<◌, ◌≡◌, arith, length, rules, subst, sym}
use Rattle.std.proofs.Math.IntN.{ℤ}
use Rattle.ln_poly.specs.Words.{half}
use Rattle.ln_poly.proofs.Derivations.Several.{some-length}
use Rattle.ln_poly.proofs.Packing.Loops.{one-long, one-product, one-room}
use Rattle.ln_poly.proofs.packed.one_row.Goals as goal

pub put_row-requires : goal.put_row-requires
put_row-requires g c =
    let one : length c.args.f.now ≡ 1 = omega (arith, c.requires.short, some-length _ _ c.is_empty.ensures c.if-is_empty.false) in
    let fit = c.requires.fit in
    let low = subst (λ (x : ℕ × ℤ). x.0 < half g.row.N) (sym c.index-f-0.is) (fit.low 0 c.index-f-0.result (omega (arith, one))) in
    let room = one-room c.args.f.now c.args.g.now _ c.index-f-0.is one fit.room in
    (search rules, (omega (arith, c.requires.long, one-long c.args.f.now c.args.g.now one), (low, (fit.low_all, room))))

pub returns-clause-products : goal.returns-clause-products
returns-clause-products g c =
    let one : length c.args.f.now ≡ 1 = omega (arith, c.requires.short, some-length _ _ c.is_empty.ensures c.if-is_empty.false) in
    one-product _ c.args.f.now c.args.g.now _ c.index-f-0.is one c.requires.fit.factors c.requires.fit.ascending c.requires.fit.right c.put_row.ensures.row

pub returns-clause-few : goal.returns-clause-few
returns-clause-few g c =
    let one : length c.args.f.now ≡ 1 = omega (arith, c.requires.short, some-length _ _ c.is_empty.ensures c.if-is_empty.false) in
    omega (arith, one-long c.args.f.now c.args.g.now one)
