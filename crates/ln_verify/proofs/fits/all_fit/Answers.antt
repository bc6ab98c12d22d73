-- Answers to the goals of `all_fit` in src/fits.rt.
use Rattle.std.proofs.Common.{arith, refl}
use Rattle.ln_verify.proofs.Polynomials.Fitting.{fit-largest, fit-next, largest-fit}
use Rattle.ln_verify.proofs.Values.Ranges.{not-true}
use Rattle.ln_verify.proofs.fits.all_fit.Goals as goal

pub vars-init : goal.vars-init
vars-init c u h = absurd (omega (arith, h))

pub returns-then-from-gt127 : goal.returns-then-from-gt127
returns-then-from-gt127 c = (
  λ e. not-true _ e,
  λ h. absurd (omega (
    arith,
    fit-largest c.args.f.now c.args.g.now c.largest-a.result c.largest-b.result c.largest-a.ensures.value c.largest-b.ensures.value
        c.largest-a.ensures.rising c.largest-b.ensures.rising h c.vars.v c.vars-test.true,
    c.if-from-gt127.true,
    c.from.ensures,
    c.from-in-vars.ensures,
  )),
)

pub vars-preserved : goal.vars-preserved
vars-preserved c = fit-next c.largest-a.result c.largest-b.result c.vars.v c.vars.invariant
    (omega (arith, c.if-from-gt127.false, c.from.ensures, c.from-in-vars.ensures))

pub returns : goal.returns
returns c = (
  λ e. largest-fit c.args.f.now c.args.g.now c.largest-a.result c.largest-b.result c.largest-a.ensures.value c.largest-b.ensures.value
      c.largest-a.ensures.below (λ u h. c.vars.invariant u (omega (arith, h, c.vars-test.false))),
  λ h. refl,
)
