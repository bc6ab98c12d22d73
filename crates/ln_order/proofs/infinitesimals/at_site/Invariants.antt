use Rattle.std.proofs.Common.{◌≡◌, drop}
use Rattle.ln_order.specs.Sites.{along, vars_of}
use Rattle.ln_order.proofs.infinitesimals.at_site.Given as goal

abbrev pub invariant-vars : goal.invariant-vars
invariant-vars l = along (vars_of l.site (drop l.v l.vars) l.v) l.a l.b ≡ along (vars_of l.site l.vars 0) l.a l.b
