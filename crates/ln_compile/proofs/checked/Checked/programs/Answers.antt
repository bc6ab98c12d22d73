use Rattle.ln_tree.specs.Table.{table_of}
use Rattle.ln_compile.proofs.Making.BuildingLemmas.{names-differ}
use Rattle.ln_compile.proofs.checked.Checked.programs.Goals as goal

pub programs-requires-clause-bases : goal.programs-requires-clause-bases
programs-requires-clause-bases c = rw (c.as_slice.ensures, c.as_slice-2.ensures) c.self.invariant

pub programs-requires-clause-names : goal.programs-requires-clause-names
programs-requires-clause-names c =
    let t = c.self.inside.table in
    rw c.as_slice.ensures (names-differ (table_of t.sites t.params t.preds) t.whole)

pub returns : goal.returns
returns c = rw (← c.self.view_is) (rw c.as_slice.ensures at c.programs.ensures)
