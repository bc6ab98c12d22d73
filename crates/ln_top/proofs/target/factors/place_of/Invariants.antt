use Rattle.std.proofs.Common.{◌≢◌, All, take}
use Rattle.ln_top.proofs.target.factors.place_of.Given as goal

abbrev pub invariant-each : goal.invariant-each
invariant-each l = All (λ j. j ≢ l.i) (take l.k l.numbers)
