use Rattle.std.proofs.Common.{◌-◌, ◌≤◌}
use Rattle.ln_disk.specs.Flow.{Passes}
use Rattle.ln_disk.proofs.files.skip.Given as goal

abbrev pub invariant-loop-done : goal.invariant-loop-done
invariant-loop-done g l = (l.done ≤ l.count) × Passes (g.T.Read.remaining l.initial.file) (g.T.Read.remaining l.file) l.done

abbrev pub decreases-loop-done : goal.decreases-loop-done
decreases-loop-done g l = l.count - l.done
