-- Answers to the goals of `items_to_colon` in src/items.rt.
use Rattle.std.proofs.Common.{arith}
use Rattle.ln_base.specs.Lines.{words_from}
use Rattle.ln_base.proofs.Texts.Lists.{differs}
use Rattle.ln_base.proofs.Texts.Words.{past_words}
use Rattle.ln_base.proofs.Forms.Colon.{no_colon_left, no_item_here}
use Rattle.ln_base.proofs.items.items_to_colon.Goals as goal

pub returns-in_default : goal.returns-in_default
returns-in_default g c = no_item_here g.T.Item.word g.T.Item.is c.requires (words_from c.args.at c.args.bytes.now) c.words.all.items c.word-next.result.0.now
    (words_from c.words.here c.args.bytes.now) (words_from c.word-next.result.1 c.args.bytes.now) c.words.invariant.same c.word-next.ensures.word
    c.words.invariant.ranges (differs c.word-next.result.0.now c.as_slice.result.now c.if-eq.ensures c.as_slice.ensures) c.in_default.ensures.none

pub returns : goal.returns
returns g c = no_colon_left g.T.Item.word g.T.Item.is c.requires (words_from c.args.at c.args.bytes.now) c.words.all.items
    (words_from c.words.here c.args.bytes.now) c.words.invariant.same (past_words c.args.bytes.now c.words.here (omega arith)) c.words.invariant.ranges
