-- Answers to the goals of `record_number` in src/words.rt.
use Rattle.ln_base.specs.Lines.{words_from}
use Rattle.ln_trace.proofs.Reading.OneLine.{no_true, zero_number}
use Rattle.ln_trace.proofs.words.record_number.Goals as goal

pub returns-then-not-counts : goal.returns-then-not-counts
returns-then-not-counts c = zero_number (words_from c.args.at c.args.bytes.now) c.in-Some.n (words_from c.in-Some.next c.args.bytes.now)
    c.in-Some.ensures.some.1 c.in-Some.ensures.some.0 (no_true c.counts.result c.if-not-counts.true c.counts.ensures.1)
