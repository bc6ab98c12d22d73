-- Answers to the goals of `line` in src/words.rt.
use Rattle.std.proofs.Common.{sym, ◌∙◌}
use Rattle.ln_base.specs.Lines.{words, words_from}
use Rattle.ln_trace.proofs.Reading.OneLine.{found, no_args, no_kind}
use Rattle.ln_trace.proofs.words.line.Goals as goal

pub returns-in_default : goal.returns-in_default
returns-in_default c = no_kind c.args.state c.word-at.result.0.now (words_from c.word-at.result.1 c.args.bytes.now)
    (words c.args.bytes.now) c.word-at.ensures.word (sym c.kind.ensures ∙ c.in_default.is)

pub returns-in_default-2 : goal.returns-in_default-2
returns-in_default-2 c = no_args c.args.state c.in-Some.k c.word-at.result.0.now (words_from c.word-at.result.1 c.args.bytes.now)
    (words c.args.bytes.now) c.word-at.ensures.word (sym c.kind.ensures ∙ c.in-Some.is) (rw c.in_default-2.is at c.in_ok-l.ensures)

pub returns : goal.returns
returns c = rw c.after.ensures (found c.args.state c.in-Some.k c.word-at.result.0.now (words_from c.word-at.result.1 c.args.bytes.now)
    (words c.args.bytes.now) c.in-Some-2.l c.word-at.ensures.word (sym c.kind.ensures ∙ c.in-Some.is) (rw c.in-Some-2.is at c.in_ok-l.ensures))
