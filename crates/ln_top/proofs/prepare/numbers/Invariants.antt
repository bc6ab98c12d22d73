use Rattle.std.proofs.Common.{◌≡◌, map, drop, length, string_bytes}
use Rattle.ln_tree.specs.Table.{pred_of}
use Rattle.ln_top.proofs.Steps.Prepared.{Looking}
use Rattle.ln_top.proofs.prepare.numbers.Given as goal

abbrev pub invariant-names : goal.invariant-names
invariant-names l =
    Looking (map pred_of l.c.table.preds) (map string_bytes l.names)
    (map string_bytes (drop l.name-index l.names)) l.numbers.items × (length l.numbers.items ≡ l.name-index)
