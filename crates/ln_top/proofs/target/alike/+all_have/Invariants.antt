use Rattle.std.proofs.Common.{length}
use Rattle.ln_top.proofs.target.alike.+all_have.Given as goal

abbrev pub decreases-all_have : goal.decreases-all_have
decreases-all_have l = length l.numbers.now
