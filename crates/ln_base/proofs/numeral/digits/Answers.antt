use Rattle.std.proofs.Common.{arith}
use Rattle.ln_base.proofs.Texts.Numbers.{too_large}
use Rattle.ln_base.proofs.numeral.digits.Goals as goal

pub returns-in_default-clause-none : goal.returns-in_default-clause-none
returns-in_default-clause-none c = λ d. too_large c.args.word.now c.digits.i c.digits.n c.args.most c.digits-test.true (omega arith)
    (omega arith) c.digits.invariant.same c.in_default.ensures.none
