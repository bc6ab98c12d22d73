-- Answers to the goals of `first_len` in src/scan.rt.
use Rattle.std.proofs.Common.{arith}
use Rattle.ln_csyn.proofs.scan.first_len.Goals as goal

pub overflow_add-result : goal.overflow_add-result
overflow_add-result c = omega (arith, c.name_run.ensures.within, c.in-len1-up.len_at_least, c.requires)

pub overflow_add-result-then-digit : goal.overflow_add-result-then-digit
overflow_add-result-then-digit c = omega (arith, c.digit_run.ensures.within, c.in-len1-up.len_at_least, c.requires)

pub returns-then-letter-clause-within : goal.returns-then-letter-clause-within
returns-then-letter-clause-within c = omega (arith, c.name_run.ensures.within, c.in-len1-up.len_at_least)

pub returns-then-digit-clause-within : goal.returns-then-digit-clause-within
returns-then-digit-clause-within c = omega (arith, c.digit_run.ensures.within, c.in-len1-up.len_at_least)

pub returns-else-digit-clause-within : goal.returns-else-digit-clause-within
returns-else-digit-clause-within c = omega (arith, c.sign_len.ensures.within, c.in-len1-up.len_at_least)
