use Rattle.std.proofs.Common.{◌+◌, ◌-◌, ◌*◌, length}
use Rattle.ln_nest.proofs.horner.+powers.Given as goal

abbrev pub decreases-nest_from : goal.decreases-nest_from
decreases-nest_from l = (length l.vars.now - l.v) * 512

abbrev pub decreases-by_powers : goal.decreases-by_powers
decreases-by_powers l = (length l.vars.now - (l.v + 1)) * 512 + (l.b + 1)
