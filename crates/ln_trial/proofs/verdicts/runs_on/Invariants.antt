-- The loop of `runs_on` in src/verdicts.rt.
use Rattle.ln_code.specs.Memory.{MadeFor}
use Rattle.ln_trial.proofs.verdicts.runs_on.Given as goal

abbrev pub invariant-runs : goal.invariant-runs
invariant-runs l = MadeFor l.program l.s
