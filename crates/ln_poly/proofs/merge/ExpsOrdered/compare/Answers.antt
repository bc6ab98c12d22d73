use Rattle.ln_poly.proofs.Sorting.Added.{pairs-ranked}
use Rattle.ln_poly.proofs.merge.ExpsOrdered.compare.Goals as goal

pub returns : goal.returns
returns c = pairs-ranked c.args.self.now c.args.other.now c.cmp.result c.cmp.ensures
