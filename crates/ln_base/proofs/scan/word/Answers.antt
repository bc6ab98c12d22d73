use Rattle.ln_base.proofs.Texts.Words.{word_at}
use Rattle.ln_base.proofs.scan.word.Goals as goal

pub returns-clause-word : goal.returns-clause-word
returns-clause-word c = word_at c.args.at c.find-end.result c.args.bytes.now c.between.result.now c.requires c.find-end.ensures.place c.between.ensures
