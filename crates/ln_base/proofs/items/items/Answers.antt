-- Answers to the goals of `items` in src/items.rt.
use Rattle.std.proofs.Common.{◌≡◌, arith, map, subst, sym}
use Rattle.ln_base.specs.Exponents.{Each}
use Rattle.ln_base.specs.Lines.{words_from}
use Rattle.ln_base.proofs.Texts.Lists.{stops_here, words_all}
use Rattle.ln_base.proofs.Texts.Words.{past_words}
use Rattle.ln_base.proofs.items.items.Goals as goal

pub returns-in_default : goal.returns-in_default
returns-in_default g c = stops_here g.T.Item.word g.T.Item.is
    (words_from c.args.at c.args.bytes.now) c.words.all.items c.word-next.result.0.now (words_from c.words.here c.args.bytes.now)
    (words_from c.word-next.result.1 c.args.bytes.now) c.words.invariant.same c.word-next.ensures.word c.in_default.ensures.none

pub returns : goal.returns
returns g c = subst (λ xs. Each g.T.Item.is xs × (words_from c.args.at c.args.bytes.now ≡ map g.T.Item.word xs)) (sym c.from_vec.ensures) (
  c.words.invariant.ranges,
  words_all g.T.Item.word (words_from c.args.at c.args.bytes.now) c.words.all.items
      (words_from c.words.here c.args.bytes.now) c.words.invariant.same (past_words c.args.bytes.now c.words.here (omega arith)),
)
