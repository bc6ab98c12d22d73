use Rattle.ln_stage.proofs.Testing.Pairs.{TurnsTo}
use Rattle.ln_stage.proofs.symmetry.has_symmetry.Given as goal

abbrev pub invariant-neighbours : goal.invariant-neighbours
invariant-neighbours l = TurnsTo l.j l.s.vars l.y l.f
