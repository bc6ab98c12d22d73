use Rattle.std.proofs.Common.{◌≡◌, ◌-◌, drop}
use Rattle.ln_order.specs.Sites.{ranking_of}
use Rattle.ln_order.proofs.infinitesimals.ranked.Given as goal

abbrev pub invariant-sites : goal.invariant-sites
invariant-sites l = l.out.items ≡ ranking_of l.vars (drop (l.n - l.k) l.places)
