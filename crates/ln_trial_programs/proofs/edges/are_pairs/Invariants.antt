-- The loop of `are_pairs` in src/edges.rt.
use Rattle.ln_code.specs.Memory.{MadeFor}
use Rattle.ln_trial_programs.proofs.edges.are_pairs.Given as goal

abbrev pub invariant-pairs : goal.invariant-pairs
invariant-pairs l = MadeFor l.p l.s
