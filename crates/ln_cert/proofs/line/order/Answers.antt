-- Answers to the goals of `order` in src/line.rt.
use Rattle.std.proofs.Common.{refl}
use Rattle.ln_base.specs.Lines.{words_from}
use Rattle.ln_cert.proofs.Reading.OneLine.{no_list, no_numbers, no_colon}
use Rattle.ln_cert.proofs.line.order.Goals as goal

pub items_to_colon-requires : goal.items_to_colon-requires
items_to_colon-requires c = no_colon

pub returns-then-ended : goal.returns-then-ended
returns-then-ended c =
    let k = rw c.in-Some.is at c.in_ok-sites.ensures in
    no_list (words_from c.args.at c.args.bytes.now) c.in-Some.sites (words_from c.in-Some.next c.args.bytes.now) k.0 k.1 (c.if-ended.ensures.0 refl)

pub returns-in_default-2 : goal.returns-in_default-2
returns-in_default-2 c =
    let k = rw c.in-Some.is at c.in_ok-sites.ensures in
    no_numbers (words_from c.args.at c.args.bytes.now) c.in-Some.sites (words_from c.in-Some.next c.args.bytes.now) k.0 k.1
    (rw c.in_default-2.is at c.in_ok-list.ensures)
