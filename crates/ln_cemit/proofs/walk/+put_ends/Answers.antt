-- Answers to the goals of `put_ends` in src/walk.rt.
use Rattle.std.proofs.Common.{arith, suc, ◌-◌, ◌≡◌}
use Rattle.ln_base.proofs.Texts.Putting.{puts_last}
use Rattle.ln_cemit.proofs.walk.+put_ends.Goals as goal

pub returns : goal.returns
returns t c =
    let e : c.args.n ≡ suc (c.args.n - 1) = omega (arith, c.if-n-eq0.false) in
    rw e (puts_last c.put_ends.result _ _ c.in_ok-put.ensures c.put_ends.ensures)
