use Rattle.std.proofs.Common.{◌≡◌, ◌-◌, ◌^◌, length}
use Rattle.std.specs.Io.KnownBytes.{Keeps}
use Rattle.ln_disk.proofs.files.read_once.Given as goal

abbrev pub invariant-loop-end : goal.invariant-loop-end
invariant-loop-end g l = (length l.buf ≡ length l.initial.buf) × Keeps (g.T.Read.remaining l.initial.file) (g.T.Read.remaining l.file)

abbrev pub decreases-loop-end : goal.decreases-loop-end
decreases-loop-end g l = 2 ^ 64 - 1 - l.tries.interrupted
