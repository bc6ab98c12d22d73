use Rattle.std.proofs.Common.{arith}
use Rattle.ln_tree.proofs.KeptLemmas.{laid_out}
use Rattle.ln_rows.proofs.Fields.RangeLemmas.{shape_columns}
use Rattle.ln_rows.proofs.rows.Rows.next_row.Goals as goal

pub take_row-requires-clause-few_vars : goal.take_row-requires-clause-few_vars
take_row-requires-clause-few_vars c =
    let s = laid_out c.args.p.now.shape.sites c.args.p.now.shape.vars c.args.p.now.shape.kept in
    rw c.as_slice-vars.ensures s.few_vars

pub take_row-requires-clause-few_sites : goal.take_row-requires-clause-few_sites
take_row-requires-clause-few_sites c =
    let all = shape_columns c.args.p.now.shape.sites c.args.p.now.shape.vars c.args.p.now.shape.kept in
    let s = laid_out c.args.p.now.shape.sites c.args.p.now.shape.vars c.args.p.now.shape.kept in
    rw c.as_slice-vars.ensures (omega (arith, all, s.few_sites))
