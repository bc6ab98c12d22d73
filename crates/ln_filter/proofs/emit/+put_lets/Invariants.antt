use Rattle.std.proofs.Common.{length}
use Rattle.ln_filter.proofs.emit.+put_lets.Given as goal

abbrev pub decreases-put_lets : goal.decreases-put_lets
decreases-put_lets l = length l.lets.now
