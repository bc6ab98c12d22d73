use Rattle.std.proofs.Common.{◌≤◌, take}
use Rattle.std.specs.Prelude.{All}
use Rattle.ln_code.proofs.scratch.deepest.Given as goal

abbrev pub invariant-each : goal.invariant-each
invariant-each l = All (λ c. c.depth ≤ l.most) (take l.b-index l.blocks)
