-- Invariants and measures of `items_to_colon` in src/items.rt.
use Rattle.std.proofs.Common.{◌≡◌, ◌+◌, ◌-◌, ◌++◌, length, map}
use Rattle.ln_base.specs.Exponents.{Each}
use Rattle.ln_base.specs.Lines.{words_from}
use Rattle.ln_base.proofs.items.items_to_colon.Given as goal

abbrev pub invariant-words : goal.invariant-words
invariant-words g l = record {
  ranges : Each g.T.Item.is l.all.items;
  same : words_from l.at l.bytes ≡ map g.T.Item.word l.all.items ++ words_from l.here l.bytes;
}

abbrev pub decreases-words : goal.decreases-words
decreases-words g l = length l.bytes + 1 - l.here
