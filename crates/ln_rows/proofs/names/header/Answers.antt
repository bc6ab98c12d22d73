use Rattle.std.proofs.lemmas.Bool.{false≢true}
use Rattle.ln_rows.specs.Columns.{arg_columns}
use Rattle.ln_rows.proofs.Fields.NameLemmas.{arg_stop}
use Rattle.ln_rows.proofs.names.header.Goals as goal

pub returns-in-None : goal.returns-in-None
returns-in-None c = (
  λ e. absurd (false≢true e),
  λ e. absurd (arg_stop (arg_columns c.args.t.now.sites c.args.t.now.params) c.args.p.now.args c.each.arg-index c.arg-item.result _ c.each.at
      (rw c.as_slice-arg-items.ensures at c.each-test.true) (rw c.as_slice-arg-items.ensures at c.arg-item.is) c.each.invariant c.in-None.ensures e),
)
