-- Answers to the goals of `of_number` in src/listings.rt.
use Rattle.ln_verify.proofs.Judging.Subjects.{rules-1, rules-2}
use Rattle.ln_verify.proofs.listings.of_number.Goals as goal

pub returns-then-number-eq1 : goal.returns-then-number-eq1
returns-then-number-eq1 c = rules-1 c.args.number c.if-number-eq1.true

pub returns : goal.returns
returns c = rules-2 c.args.number c.if-number-eq1.false
