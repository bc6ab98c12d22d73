-- The loop of `emit` in src/file.rt.
use Rattle.std.proofs.Common.{take}
use Rattle.ln_cemit.specs.Emitted.{BeginsFile}
use Rattle.ln_cemit.proofs.file.emit.Given as goal

abbrev pub invariant-programs : goal.invariant-programs
invariant-programs l = BeginsFile l.out.items (take l.program-index l.p)
