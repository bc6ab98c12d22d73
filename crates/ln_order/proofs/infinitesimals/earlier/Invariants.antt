use Rattle.std.proofs.Common.{◌≡◌, ◌-◌, drop}
use Rattle.std.specs.declared.cmp.Ordering.TheVariants.{Equal}
use Rattle.ln_order.specs.Sites.{along, ranking_of}
use Rattle.ln_order.proofs.infinitesimals.earlier.Given as goal

abbrev pub invariant-sites : goal.invariant-sites
invariant-sites l = along (ranking_of l.vars (drop (l.n - l.k) l.places)) l.a l.b ≡ Equal
