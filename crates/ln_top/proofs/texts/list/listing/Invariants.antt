-- The loop of `listing` in src/texts/list.rt.
use Rattle.std.proofs.Common.{map}
use Rattle.ln_tree.specs.Table.{pred_of}
use Rattle.ln_top.specs.Texts.Listing.{IsListingOfFirst}
use Rattle.ln_top.proofs.texts.list.listing.Given as goal

abbrev pub invariant-each : goal.invariant-each
invariant-each l = IsListingOfFirst (map pred_of l.source.table.preds) l.i l.text.items
