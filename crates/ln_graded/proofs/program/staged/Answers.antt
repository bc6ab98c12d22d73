use Rattle.std.proofs.Common.{arith}
use Rattle.ln_graded.proofs.program.staged.Goals as goal

pub graded_stages-requires-clause-below : goal.graded_stages-requires-clause-below
graded_stages-requires-clause-below c = c.requires.poly.below

pub graded_stages-requires-clause-heavy : goal.graded_stages-requires-clause-heavy
graded_stages-requires-clause-heavy c = omega (arith, c.requires.heavy)

pub returns-in-Err-Zero-clause-err : goal.returns-in-Err-Zero-clause-err
returns-in-Err-Zero-clause-err c = absurd (c.requires.poly.some (rw c.in-Err-Zero.field-0-is at c.in-Err-Zero.ensures.err))

pub returns-in-Err-Stages-clause-err : goal.returns-in-Err-Stages-clause-err
returns-in-Err-Stages-clause-err c =
    let e = rw c.in-Err-Stages.field-0-is at c.in-Err-Stages.ensures.err in
    e.1
