use Rattle.ln_top.proofs.SignsLemmas.ProductLaws.{line_there}
use Rattle.ln_top.proofs.signs.product.FactorsRecordWriter.make_room.Goals as goal

pub returns-clause-has : goal.returns-clause-has
returns-clause-has c = λ ps k. line_there c.args.self.now c.make_room.ensures.factors ps k
