use Rattle.std.proofs.Common.{take, map}
use Rattle.ln_bound.specs.View.{typed}
use Rattle.ln_lower.specs.Distinct.{AreNumbersOf}
use Rattle.ln_lower.proofs.blocks.number_all.Given as goal

abbrev pub invariant-trees : goal.invariant-trees
invariant-trees l = AreNumbersOf l.distinct.keys l.numbers (map typed (take l.t-index l.trees))
