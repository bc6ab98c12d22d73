use Rattle.std.proofs.Common.{◌≡◌, take}
use Rattle.ln_nest.specs.Nested.{total}
use Rattle.ln_nest.specs.View.{terms_in}
use Rattle.ln_nest.proofs.work.constant.Given as goal

abbrev pub invariant-loop-term : goal.invariant-loop-term
invariant-loop-term l = l.sum ≡ total (terms_in (take l.term-index l.terms))
