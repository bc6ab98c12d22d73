-- Answers to the goals of `at_line` in src/words.rt.
use Rattle.ln_base.specs.Lines.{words_from}
use Rattle.ln_trace.proofs.Reading.OneLine.{no_colon, no_more, no_true, no_value}
use Rattle.ln_trace.proofs.words.at_line.Goals as goal

pub items_to_colon-requires : goal.items_to_colon-requires
items_to_colon-requires c = no_colon

pub returns-in_default-signed_field : goal.returns-in_default-signed_field
returns-in_default-signed_field c =
    let f = rw c.in-Some.is at c.in_ok-exps.ensures in
    no_value (words_from c.args.at c.args.bytes.now) c.in-Some.exps (words_from c.in-Some.next c.args.bytes.now) f.0 f.1 c.in_default-signed_field.ensures.none

pub returns-then-not-ended : goal.returns-then-not-ended
returns-then-not-ended c =
    let f = rw c.in-Some.is at c.in_ok-exps.ensures in
    no_more (words_from c.args.at c.args.bytes.now) c.in-Some.exps (words_from c.in-Some.next c.args.bytes.now)
    (words_from c.in-Some-signed_field.end c.args.bytes.now) _ f.0 f.1 c.in-Some-signed_field.ensures.some.1
    (no_true c.ended.result c.if-not-ended.true c.ended.ensures.1)
