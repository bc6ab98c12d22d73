use Rattle.ln_top.proofs.SignsLemmas.SignsLaws.{line_there}
use Rattle.ln_top.proofs.signs.run.TargetRecordWriter.make_room.Goals as goal

pub returns-clause-has : goal.returns-clause-has
returns-clause-has c = λ ps k. line_there c.args.self.now c.scratch.ensures.belongs
