use Rattle.std.proofs.Common.{◌≡◌, false, length, ◌-◌, ◌+◌}
use Rattle.ln_base.proofs.whole.read_on.Given as goal
use Rattle.ln_base.proofs.Kept.{Reads}

abbrev pub invariant-loop-buf : goal.invariant-loop-buf
invariant-loop-buf g l =
    Reads l.name (g.F.Files.told l.initial.files) (g.F.Files.told l.files) l.to.items l.limit (g.F.Files.faults l.initial.files) (g.F.Files.faults l.files)
    (g.F.Files.given l.initial.files) (g.F.Files.given l.files) × (l.to.refused ≡ false)

abbrev pub decreases-loop-buf : goal.decreases-loop-buf
decreases-loop-buf g l = l.limit + 1 - length l.to.items
