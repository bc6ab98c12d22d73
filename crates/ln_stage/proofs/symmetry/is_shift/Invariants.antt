use Rattle.std.proofs.Common.{◌<◌, ℕ}
use Rattle.ln_stage.proofs.Testing.Variables.{ShiftsAt}
use Rattle.ln_stage.proofs.symmetry.is_shift.Given as goal

abbrev pub invariant-variables : goal.invariant-variables
invariant-variables l = (v : ℕ) → v < l.v → ShiftsAt l.vars l.j l.d v
