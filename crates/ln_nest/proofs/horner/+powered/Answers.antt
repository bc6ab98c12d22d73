use Rattle.std.proofs.Common.{◌≡◌, true, false, ◌-◌, ◌/◌, ◌∙◌, sym, arith}
use Rattle.std.proofs.lemmas.Result.{IfOk-weaker}
use Rattle.ln_bound.specs.View.{typed}
use Rattle.ln_nest.specs.Nested.{is_square}
use Rattle.ln_nest.proofs.Terms.Powers.{halves}
use Rattle.ln_nest.proofs.Forms.Steps.{again_fits, again_has, half_fits, lower_fits, square_has, variable_has}
use Rattle.ln_nest.proofs.horner.+powered.Goals as goal

pub returns-then-e-lt2 : goal.returns-then-e-lt2
returns-then-e-lt2 t c = variable_has c.args.vars.now c.args.v c.args.k c.args.e (typed c.input.result) c.input.ensures c.requires.some c.requires.steps
    (λ l. omega (arith, c.if-e-lt2.true))

pub powered-requires : goal.powered-requires
powered-requires t c =
    let q : is_square c.args.e ≡ true = sym c.is_square.ensures ∙ c.if-is_square.true in
    let r = halves c.args.e q in (
      omega (arith, c.if-e-lt2.false, c.requires.steps, c.decreases),
      (
        c.requires.variable,
        (
          c.requires.few,
          (
            c.requires.ordered,
            (
              omega (arith, r.0),
              (
                omega (arith, r.0, r.1, c.requires.steps),
                lower_fits c.args.vars.now c.args.v (c.args.e / 2) c.args.e (omega
                    (arith, r.1)) c.requires.small,
              ),
            ),
          ),
        ),
      ),
    )

pub powered-requires-2 : goal.powered-requires-2
powered-requires-2 t c =
    let g = c.if-e-lt2.false in (
      omega (arith, g, c.requires.steps, c.decreases),
      (
        c.requires.variable,
        (
          c.requires.few,
          (
            c.requires.ordered,
            (
              omega (arith, g),
              (
                omega (arith, g, c.requires.steps),
                lower_fits c.args.vars.now c.args.v (c.args.e - 1) c.args.e
                    (omega arith) c.requires.small,
              ),
            ),
          ),
        ),
      ),
    )

pub raised-requires : goal.raised-requires
raised-requires t c =
    let q : is_square c.args.e ≡ true = sym c.is_square.ensures ∙ c.if-is_square.true in
    half_fits c.args.vars.now c.args.v c.args.e (typed c.in_ok-half.half) _ q c.in_ok-half.ensures c.requires.small

pub returns-then-is_square : goal.returns-then-is_square
returns-then-is_square t c =
    let q : is_square c.args.e ≡ true = sym c.is_square.ensures ∙ c.if-is_square.true in
    IfOk-weaker c.raised.result _ _ (λ x p. square_has c.args.vars.now c.args.v c.args.k c.args.e (typed c.in_ok-half.half) (typed x)
    (omega (arith, c.if-e-lt2.false, c.requires.steps)) c.if-e-lt2.false q c.in_ok-half.ensures p) c.raised.ensures

pub two-requires : goal.two-requires
two-requires t c = again_fits c.args.vars.now c.args.v c.args.e (typed c.in_ok-lower.lower) (typed c.input-2.result) _ c.if-e-lt2.false
    c.in_ok-lower.ensures c.input-2.ensures c.requires.small

pub returns : goal.returns
returns t c =
    let q : is_square c.args.e ≡ false = sym c.is_square.ensures ∙ c.if-is_square.false in
    IfOk-weaker c.two.result _ _ (λ x p. again_has c.args.vars.now c.args.v c.args.k c.args.e (typed c.in_ok-lower.lower) (typed c.input-2.result) (typed x)
    (omega (arith, c.if-e-lt2.false, c.requires.steps)) c.if-e-lt2.false q c.in_ok-lower.ensures c.input-2.ensures p) c.two.ensures
