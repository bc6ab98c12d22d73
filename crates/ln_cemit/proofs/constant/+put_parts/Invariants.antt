-- Invariants and measures of `put_parts` in src/constant.rt.
use Rattle.ln_cemit.proofs.constant.+put_parts.Given as goal

abbrev pub decreases-put_parts : goal.decreases-put_parts
decreases-put_parts l = l.k
