-- What `power` keeps, or what it measures.
use Rattle.ln_interval.proofs.pair.Pair.+power.Given as goal

abbrev pub decreases-power : goal.decreases-power
decreases-power l = l.n
