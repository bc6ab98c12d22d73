use Rattle.std.proofs.Common.{arith}
use Rattle.std.proofs.lemmas.List.{map-append}
use Rattle.ln_syntax.proofs.Spellings.Parts.{items_begin, item_rises, item_more, items_end}
use Rattle.ln_syntax.proofs.Spellings.PlacesWithin.{all_within}
use Rattle.ln_syntax.proofs.items.read_items.Goals as goal

pub items-init : goal.items-init
items-init c = rw c.new-read.ensures.items (items_begin c.requires.text)

pub items-smaller : goal.items-smaller
items-smaller c = let r = item_rises c.in_ok-next.ensures in omega (arith, c.items-test.true)

pub items-preserved : goal.items-preserved
items-preserved c = rw (c.in_ok-push.ensures.items, map-append) (item_more c.items.invariant c.in_ok-next.ensures)

pub returns-clause-ok : goal.returns-clause-ok
returns-clause-ok c = items_end c.items.invariant c.items-test.false

pub returns-clause-within : goal.returns-clause-within
returns-clause-within c = all_within c.args.ts.now c.items.read.items (items_end c.items.invariant c.items-test.false)
