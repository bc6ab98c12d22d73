-- Answers to the goals of `put_tries` in src/walk.rt.
use Rattle.std.proofs.Common.{arith, refl}
use Rattle.ln_cemit.proofs.Writing.Loops.{tries_done, tries_next}
use Rattle.ln_cemit.proofs.walk.put_tries.Goals as goal

pub numbers-preserved : goal.numbers-preserved
numbers-preserved c =
    λ b. tries_next c.args.name.now c.args.numbers.now c.numbers.number-index _ _ b (omega arith) refl (c.numbers.invariant b) c.in_ok-put_block_try.ensures

pub returns : goal.returns
returns c = λ b. tries_done c.args.name.now c.args.numbers.now c.numbers.number-index b (omega arith) (c.numbers.invariant b)
