use Rattle.std.proofs.Common.{◌≡◌, drop}
use Rattle.ln_cemit.specs.Puts.{any_reads}
use Rattle.ln_cemit.proofs.body.reads_row.Given as goal

abbrev pub invariant-ops : goal.invariant-ops
invariant-ops l = any_reads (drop l.op-index l.ops) ≡ any_reads l.ops
