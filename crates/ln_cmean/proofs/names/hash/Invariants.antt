use Rattle.std.proofs.Common.{◌≡◌, fold, drop}
use Rattle.ln_cmean.specs.Chains.{mixed}
use Rattle.ln_cmean.proofs.names.hash.Given as goal

abbrev pub invariant-letters : goal.invariant-letters
invariant-letters l = fold mixed l.hash (drop l.letter-index l.name) ≡ fold mixed 0 l.name
