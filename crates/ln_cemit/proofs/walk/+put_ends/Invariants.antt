use Rattle.ln_cemit.proofs.walk.+put_ends.Given as goal

abbrev pub decreases-put_ends : goal.decreases-put_ends
decreases-put_ends l = l.n
