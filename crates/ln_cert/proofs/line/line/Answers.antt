-- Answers to the goals of `line` in src/line.rt.
use Rattle.std.proofs.Common.{sym, ◌∙◌}
use Rattle.ln_base.specs.Lines.{words, words_from}
use Rattle.ln_cert.proofs.Reading.FirstWords.{sound}
use Rattle.ln_cert.proofs.Reading.OneLine.{found, no_args, no_kind}
use Rattle.ln_cert.proofs.line.line.Goals as goal

pub part-requires : goal.part-requires
part-requires c = (sound c.args.version c.args.state c.word-at.result.0.now c.in-Some.k (sym c.kind.ensures ∙ c.in-Some.is)).good

pub returns-in_default : goal.returns-in_default
returns-in_default c = no_kind c.args.version c.args.state c.word-at.result.0.now (words_from c.word-at.result.1 c.args.bytes.now)
    (words c.args.bytes.now) c.word-at.ensures.word (sym c.kind.ensures ∙ c.in_default.is)

pub returns-in_default-2 : goal.returns-in_default-2
returns-in_default-2 c = no_args c.args.version c.args.state c.in-Some.k c.word-at.result.0.now (words_from c.word-at.result.1 c.args.bytes.now)
    (words c.args.bytes.now) c.word-at.ensures.word (sym c.kind.ensures ∙ c.in-Some.is) (rw c.in_default-2.is at c.in_ok-p.ensures)

pub returns : goal.returns
returns c = rw c.after.ensures (found c.args.version c.args.state c.in-Some.k c.word-at.result.0.now (words_from c.word-at.result.1 c.args.bytes.now)
    (words c.args.bytes.now) c.in-Some-2.p c.word-at.ensures.word (sym c.kind.ensures ∙ c.in-Some.is) (rw c.in-Some-2.is at c.in_ok-p.ensures))
