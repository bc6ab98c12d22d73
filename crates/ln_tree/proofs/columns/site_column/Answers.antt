use Rattle.std.proofs.Common.{◌∙◌, sym}
use Rattle.ln_tree.specs.Names.{name_bytes}
use Rattle.ln_tree.specs.Columns.{coord_column}
use Rattle.ln_tree.proofs.ColumnLemmas.{none_past}
use Rattle.ln_tree.proofs.columns.site_column.Goals as goal

pub returns-in-None : goal.returns-in-None
returns-in-None c = rw c.in-Some.is (c.new-in-None.ensures.items
    ∙ sym (none_past (coord_column c.args.name.now) (name_bytes c.args.name.now) _ c.args.i c.if-i-eq0.false c.in-None.ensures.value))
