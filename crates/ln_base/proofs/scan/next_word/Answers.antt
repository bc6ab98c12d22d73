-- Answers to the goals of `next_word` in src/scan.rt.
use Rattle.ln_base.proofs.Texts.Words.{past_words}
use Rattle.ln_base.proofs.scan.next_word.Goals as goal

pub returns-then-at-bytes-clause-none : goal.returns-then-at-bytes-clause-none
returns-then-at-bytes-clause-none c = past_words c.args.bytes.now c.args.at c.if-at-bytes.true
