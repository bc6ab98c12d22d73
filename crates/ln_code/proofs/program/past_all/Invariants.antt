use Rattle.std.proofs.Common.{◌≡◌, drop, max}
use Rattle.ln_code.specs.OneOrder.{past_all}
use Rattle.ln_code.proofs.program.past_all.Given as goal

abbrev pub invariant-numbers : goal.invariant-numbers
invariant-numbers l = max l.past (past_all (drop l.n-index l.numbers)) ≡ past_all l.numbers
