-- Answers to the goals of `kept` in src/made.rt.
use Rattle.std.proofs.Common.{arith, refl, subst, sym}
use Rattle.ln_due.specs.Small.{IsSmall}
use Rattle.ln_verify.proofs.Polynomials.Fitting.{few-small, many-large}
use Rattle.ln_verify.proofs.made.kept.Goals as goal

pub returns-then-count-gt1024 : goal.returns-then-count-gt1024
returns-then-count-gt1024 g c n t h = λ small. many-large n t c.args.poly h (omega (arith, c.if-count-gt1024.true, c.count.ensures))
    (subst (IsSmall n) (g.met.L.Limits.tree_known c.args.limits t c.args.size) small)

pub returns : goal.returns
returns g c n t h = (
  record { tree = t; is = refl; normal = h },
  subst (IsSmall n) (sym (g.met.L.Limits.tree_known c.args.limits t c.args.size))
      (few-small n t c.args.poly h (omega (arith, c.if-count-gt1024.false, c.count.ensures))),
)
