-- What the search leaves open in `power`.
use Rattle.std.proofs.Common.{◌-◌, arith}
use Rattle.ln_interval.specs.View.{range}
use Rattle.ln_interval.proofs.Ends.{power_past, power_step}
use Rattle.ln_interval.proofs.pair.Pair.+power.Goals as goal

pub returns-in-Some : goal.returns-in-Some
returns-in-Some t c =
    let s = power_step (range c.args.self) c.args.n (c.args.n - 1) (let z = c.if-n-eq0.false in omega (arith, z)) in
    let e = c.in-Some.ensures in
    rw (s, ← e) c.mul.ensures

pub returns-in-None : goal.returns-in-None
returns-in-None t c = power_past (range c.args.self) c.args.n (c.args.n - 1) (let z = c.if-n-eq0.false in omega (arith, z)) c.in-None.ensures
