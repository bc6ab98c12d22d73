use Rattle.ln_top.proofs.SignsLemmas.ExplainedRows.{line_there}
use Rattle.ln_top.proofs.signs.explain.ExplainerRecordWriter.make_room.Goals as goal

pub returns-clause-has : goal.returns-clause-has
returns-clause-has c = λ ps k. line_there c.args.self.now.target k.0 (rw k.1 at c.scratch.ensures.belongs)
