use Rattle.std.proofs.Common.{◌≡◌, ◌++◌, [], drop, map}
use Rattle.ln_code.specs.OneOrder.{at_once}
use Rattle.ln_code.proofs.program.at_once.Given as goal

abbrev pub invariant-others : goal.invariant-others
invariant-others l = l.all ++ map (λ _. []) (drop l.index l.others) ≡ at_once l.fn.list.items l.fn.segments
