use Rattle.std.proofs.Common.{◌≡◌, arith, drop, decimal, ◌∙◌, ap}
use Rattle.ln_base.proofs.Texts.Numbers.{no_number, no_zero}
use Rattle.ln_base.proofs.numeral.integer.Goals as goal

pub returns-in_default-clause-none : goal.returns-in_default-clause-none
returns-in_default-clause-none c =
    λ z h. no_number c.args.word.now z (omega arith) c.if-word-eq45.true h (λ n l e. c.in_default.ensures.none n l (c.after.ensures ∙ e))

pub returns-then-n-eq0-clause-none : goal.returns-then-n-eq0-clause-none
returns-then-n-eq0-clause-none c = λ z h. let e : drop 1 c.args.word.now ≡ c.after.result.now = cc in
    no_zero c.args.word.now z (omega arith) c.if-word-eq45.true h (e ∙ c.in-Some.ensures.some.1 ∙ ap decimal c.if-n-eq0.true)
