use Rattle.std.proofs.Common.{◌≡◌, ◌≤◌, arith, subst, suc, sym}
use Rattle.ln_interval.specs.Range.{magnitude, most, power, product}
use Rattle.ln_interval.specs.View.{range}
use Rattle.ln_bound.specs.Typed.{pair}
use Rattle.ln_bound.specs.View.{typed}
use Rattle.ln_lower.proofs.Operations.Writes.{power_below}
use Rattle.ln_lower.proofs.marks.DistinctMarks.factor.Goals as goal

pub product_of-requires : goal.product_of-requires
product_of-requires c =
    let q = pair (typed c.args._x.now) in
    let h = c.requires.good in
    let f : magnitude (power q h.0) ≤ most = h.2.1 in
    let i = h.3 in
    let l : suc c.args._m ≤ h.0 = omega (arith, i) in
    let g : magnitude (power q (suc c.args._m)) ≤ most = power_below q (suc c.args._m) h.0 l f in
    let a : range c.args.p ≡ power q c.args._m = c.requires.power in
    let b : range c.args.a ≡ q = c.requires.base in
    subst (λ r. magnitude (product r (range c.args.a)) ≤ most) (sym a)
    (subst (λ r. magnitude (product (power q c.args._m) r) ≤ most) (sym b) g)
