use Rattle.std.proofs.Common.{FitsSigned, to_z, ◌≡◌, ◌<◌, arith, rules}
use Rattle.std.proofs.lemmas.Int.{to_z-of_z}
use Rattle.std.proofs.Math.IntN.{◌*ℤ◌}
use mir.Syntax.{w64, w128}
use Rattle.ln_interval.proofs.Ends.{fit}
use Rattle.ln_poly.proofs.Evaluations.Room.{raised-end, raised-fits, raised-on}
use Rattle.ln_poly.proofs.values.raised.Goals as goal

pub overflow_mul-product : goal.overflow_mul-product
overflow_mul-product c =
    let fz : FitsSigned w128 c.args.z = search rules in
    let fx : FitsSigned w64 c.args.x = search rules in
    let fy : FitsSigned w128 c.from-product.result = search rules in
    let e : c.from-product.result ≡ c.args.x = search rules in
    let r = rw (to_z-of_z w128 c.args.z fz, to_z-of_z w64 c.args.x fx) at c.factors.invariant in
    rw (to_z-of_z w128 c.from-product.result fy, e) (fit _ (raised-fits c.args.z _ c.args.x c.args.n c.factors._k (omega (arith, c.factors-test.true)) r))

pub factors-preserved : goal.factors-preserved
factors-preserved c =
    let fz : FitsSigned w128 c.args.z = search rules in
    let fx : FitsSigned w64 c.args.x = search rules in
    let fy : FitsSigned w128 c.from-product.result = search rules in
    let e : c.from-product.result ≡ c.args.x = search rules in
    let r = rw (to_z-of_z w128 c.args.z fz, to_z-of_z w64 c.args.x fx) at c.factors.invariant in
    let l : c.factors._k < c.args.n = omega (arith, c.factors-test.true) in
    let g : FitsSigned w128 (to_z w128 c.factors.product-bits *ℤ c.args.x) = fit _ (raised-fits c.args.z _ c.args.x c.args.n c.factors._k l r) in
    rw (
      to_z-of_z w128 c.from-product.result fy,
      e,
      to_z-of_z w128 c.args.z fz,
      to_z-of_z w64 c.args.x fx,
      to_z-of_z w128 (to_z w128 c.factors.product-bits *ℤ c.args.x) g,
    ) (raised-on c.args.z _ c.args.x c.args.n c.factors._k l r)

pub returns : goal.returns
returns c =
    let fz : FitsSigned w128 c.args.z = search rules in
    let fx : FitsSigned w64 c.args.x = search rules in
    let r = rw (to_z-of_z w128 c.args.z fz, to_z-of_z w64 c.args.x fx) at c.factors.invariant in
    raised-end c.args.z _ c.args.x c.args.n c.factors._k (omega (arith, c.factors-test.false)) r
