use Rattle.std.proofs.Common.{◌≡◌, drop, get_or, []}
use Rattle.ln_tree.specs.Columns.{column_names}
use Rattle.ln_tree.proofs.pred.Pred.column.Given as goal

abbrev pub invariant-each : goal.invariant-each
invariant-each l =
    get_or (column_names l.t.sites l.t.params (drop l.arg-index l.self.args)) l.left [] ≡ get_or (column_names l.t.sites l.t.params l.self.args) l.i []
