-- Answers to the goals of `one_filter` in src/joined.rt.
use Rattle.ln_trial_surface.proofs.OneIsProgram.{one-filter}
use Rattle.ln_trial_surface.proofs.joined.one_filter.Goals as goal

pub seal-requires : goal.seal-requires
seal-requires c = rw (c.in_ok-ops.ensures, c.in_ok-triples.ensures) one-filter
