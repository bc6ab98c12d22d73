use Rattle.ln_filter.proofs.arithmetic.+powered.Given as goal

abbrev pub decreases-powered : goal.decreases-powered
decreases-powered l = l.n
