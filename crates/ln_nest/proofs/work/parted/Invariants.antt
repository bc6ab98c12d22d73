use Rattle.std.proofs.Common.{◌≡◌}
use Rattle.ln_nest.specs.Nested.{divided, free_of}
use Rattle.ln_nest.specs.View.{terms_in}
use Rattle.ln_nest.proofs.work.parted.Given as goal

abbrev pub invariant-loop-term : goal.invariant-loop-term
invariant-loop-term l = record {
  with_it : terms_in l.with.items ≡ divided l.e l.v (terms_in l.yielded);
  without_it : terms_in l.without.items ≡ free_of l.v (terms_in l.yielded);
}
