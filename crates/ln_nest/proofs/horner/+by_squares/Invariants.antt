use Rattle.ln_nest.proofs.horner.+by_squares.Given as goal

abbrev pub decreases-by_squares : goal.decreases-by_squares
decreases-by_squares l = l.k
