use Rattle.std.proofs.Common.{◌≡◌, drop}
use Rattle.ln_cemit.specs.Emit.{any_gets}
use Rattle.ln_cemit.proofs.body.any_gets.Given as goal

abbrev pub invariant-ops : goal.invariant-ops
invariant-ops l = any_gets l.j (drop l.op-index l.ops) ≡ any_gets l.j l.ops
