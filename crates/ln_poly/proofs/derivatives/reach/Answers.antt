use Rattle.std.proofs.Common.{◌≡◌, ◌∙◌, ap, arith, get_or}
use Rattle.ln_poly.specs.Lean.{largest}
use Rattle.ln_poly.proofs.Derivations.Lowering.{reaches}
use Rattle.ln_poly.proofs.derivatives.reach.Goals as goal

pub returns-clause-each : goal.returns-clause-each
returns-clause-each c =
    let w : get_or c.largest-tops.result c.from.result 0 ≡ largest c.args.f.now c.args.v =
    ap (λ z. get_or c.largest-tops.result z 0) c.from.ensures ∙ c.largest-tops.ensures.value c.args.v (omega (arith, c.ranges.v.fits)) in
    reaches c.args.f.now c.args.v c.args.n c.from-2.result (omega (arith, c.from-2.ensures, c.saturating_sub.ensures, w))
