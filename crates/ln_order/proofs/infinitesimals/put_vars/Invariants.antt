use Rattle.std.proofs.Common.{◌≡◌, ◌++◌, drop}
use Rattle.ln_order.specs.Sites.{vars_of}
use Rattle.ln_order.proofs.infinitesimals.put_vars.Given as goal

abbrev pub invariant-vars : goal.invariant-vars
invariant-vars l = l.out.items ++ vars_of l.site (drop l.v l.vars) l.v ≡ l.initial.out.items ++ vars_of l.site l.vars 0
