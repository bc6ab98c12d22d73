use Rattle.std.proofs.Common.{◌<◌, ◌≡◌, arith, length, rules}
use Rattle.ln_poly.proofs.Packing.Fields.{raised-next}
use Rattle.ln_poly.proofs.fields.raise.Goals as goal

pub pairs-preserved : goal.pairs-preserved
pairs-preserved c =
    let k : c.from-v.result < 256 = search rules in
    let z : length c.args.tops.now ≡ 256 = search rules in
    raised-next _ _ _ _ _ _ c.pairs.invariant (omega (arith, c.pairs-test.true)) c.from-v.ensures k z c.max.ensures
