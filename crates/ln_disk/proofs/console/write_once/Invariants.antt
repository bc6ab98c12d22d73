use Rattle.std.proofs.Common.{◌-◌, ◌^◌}
use Rattle.std.specs.Io.KnownBytes.{Keeps}
use Rattle.ln_disk.proofs.console.write_once.Given as goal

abbrev pub invariant-loop-end : goal.invariant-loop-end
invariant-loop-end g l = Keeps (g.W.Write.contents l.initial.to) (g.W.Write.contents l.to)

abbrev pub decreases-loop-end : goal.decreases-loop-end
decreases-loop-end g l = 2 ^ 64 - 1 - l.tries.interrupted
