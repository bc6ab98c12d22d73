use Rattle.ln_poly.proofs.Expansions.Lets.{LetsTo}
use Rattle.ln_poly.proofs.expansion.expand_lets.Given as goal

abbrev pub invariant-each : goal.invariant-each
invariant-each l = LetsTo l.vars l.lets l.j l.done
