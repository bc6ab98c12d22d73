-- States the invariant of the loop of `no_locals`: no local so far is set.
use Rattle.std.proofs.Common.{◌≡◌}
use Rattle.std.specs.Prelude.{replicate, None}
use Rattle.ln_verify.proofs.stacks.no_locals.Given as goal

abbrev pub invariant-locals : goal.invariant-locals
invariant-locals g l = l.locals.items ≡ replicate l._i None
