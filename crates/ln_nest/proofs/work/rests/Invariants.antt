use Rattle.std.proofs.Common.{◌≡◌, map, take}
use Rattle.ln_nest.specs.Nested.{rest_term}
use Rattle.ln_nest.specs.View.{terms_in}
use Rattle.ln_nest.proofs.work.rests.Given as goal

abbrev pub invariant-terms : goal.invariant-terms
invariant-terms l = terms_in l.out.items ≡ map rest_term (terms_in (take l.t-index l.terms))
