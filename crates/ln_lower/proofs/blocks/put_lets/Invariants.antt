use Rattle.std.proofs.Common.{take, map}
use Rattle.ln_bound.specs.View.{typed}
use Rattle.ln_lower.specs.Wrote.{PutsLets}
use Rattle.ln_lower.proofs.blocks.put_lets.Given as goal

abbrev pub invariant-lets : goal.invariant-lets
invariant-lets l = PutsLets l.distinct.keys l.draft (map typed (take l.j l.lets))
