-- Answers to the goals of `exponent` in src/numeral.rt.
use Rattle.ln_base.proofs.Texts.Halves.{no_hat, no_left, no_right, no_power}
use Rattle.ln_base.proofs.numeral.exponent.Goals as goal

pub returns-in_default-clause-none : goal.returns-in_default-clause-none
returns-in_default-clause-none c = no_hat c.args.word.now c.in_default.ensures.none

pub returns-in_default-number-clause-none : goal.returns-in_default-number-clause-none
returns-in_default-number-clause-none c =
    no_left c.args.word.now c.in-Some.left.now c.in-Some.right.now c.in-Some.ensures.some.0 c.in-Some.ensures.some.1 c.in_default-number.ensures.none

pub returns-in_default-number-2-clause-none : goal.returns-in_default-number-2-clause-none
returns-in_default-number-2-clause-none c =
    no_right c.args.word.now c.in-Some.left.now c.in-Some.right.now c.in-Some.ensures.some.0 c.in-Some.ensures.some.1 c.in_default-number-2.ensures.none

pub returns-then-e-eq0-clause-none : goal.returns-then-e-eq0-clause-none
returns-then-e-eq0-clause-none c = no_power c.args.word.now c.in-Some.left.now c.in-Some.right.now c.in-Some-number-2.e
    c.in-Some.ensures.some.0 c.in-Some.ensures.some.1 c.in-Some-number-2.ensures.some.1 c.if-e-eq0.true
