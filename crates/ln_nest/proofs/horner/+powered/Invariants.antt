use Rattle.ln_nest.proofs.horner.+powered.Given as goal

abbrev pub decreases-powered : goal.decreases-powered
decreases-powered l = l.k
