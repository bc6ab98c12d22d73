use Rattle.std.proofs.Common.{length}
use Rattle.std.specs.Prelude.{All}
use Rattle.ln_cmean.specs.Carrying.Calls.{IsWord}
use Rattle.ln_cmean.proofs.Carrying.CallLaws.{Found, Only}
use Rattle.ln_cmean.proofs.program.calls.some_numbers.Given as goal

abbrev pub invariant-words : goal.invariant-words
invariant-words l = record {
  found : Found l.list l.found.items l.rest;
  only : Only l.list l.rest;
  fit : All IsWord l.found.items;
}

abbrev pub decreases-words : goal.decreases-words
decreases-words l = length l.rest
