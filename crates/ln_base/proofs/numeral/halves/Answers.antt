-- Answers to the goals of `halves` in src/numeral.rt.
use Rattle.std.proofs.Common.{arith}
use Rattle.ln_base.proofs.Texts.Halves.{cut_here}
use Rattle.ln_base.proofs.numeral.halves.Goals as goal

pub returns-clause-some : goal.returns-clause-some
returns-clause-some c = cut_here c.args.word.now c.between.result.now c.after.result.now c.find-hat.result c.find-hat.ensures.place
    (omega (arith, c.find-hat.ensures.within)) c.between.ensures c.after.ensures
