use Rattle.std.proofs.Common.{length, ◌-◌}
use Rattle.ln_syntax.specs.Raw.{items}
use Rattle.ln_syntax.proofs.Spellings.Parts.{ItemsRead}
use Rattle.ln_syntax.proofs.items.read_items.Given as goal

abbrev pub invariant-items : goal.invariant-items
invariant-items l = ItemsRead l.ts l.at (items l.read.items)

abbrev pub decreases-items : goal.decreases-items
decreases-items l = length l.ts - l.at
