use Rattle.std.proofs.Common.{◌≡◌, ◌+◌, ◌<◌, true, length, arith, rules, sym, ◌∙◌}
use Rattle.ln_tree.proofs.KeptLemmas.{laid_out}
use Rattle.ln_rows.specs.Record.{columns}
use Rattle.ln_rows.proofs.Fields.RangeLemmas.{shape_columns}
use Rattle.ln_rows.proofs.Records.RowsLemmas.{takes_some, read_cut}
use Rattle.ln_rows.proofs.rows.Rows.next_fields.Goals as goal

pub overflow_add-most : goal.overflow_add-most
overflow_add-most c =
    let laid = c.args.p.now.shape.kept in
    let all = shape_columns c.args.p.now.shape.sites c.args.p.now.shape.vars laid in
    let s = laid_out c.args.p.now.shape.sites c.args.p.now.shape.vars laid in
    let count = rw c.as_slice.ensures at c.column_count-most.ensures in
    omega (arith, count, all, s.few_sites, s.few_vars)

pub returns-clause-takes : goal.returns-clause-takes
returns-clause-takes c =
    let there : c.in_ok-found.found ≡ true = search rules in
    let s = takes_some _ _ _ _ _ c.in_ok-found.ensures.takes there in
    let count = rw c.as_slice.ensures at c.column_count-most.ensures in
    let more : length (columns c.args.p.now.shape.vars) < c.column_count-most.result + 1 = omega (arith, count) in (
      s.fields,
      sym c.self.view_is ∙ s.next,
      read_cut c.args.p.now.shape.sites c.args.p.now.shape.vars s.fields _ _ _ _ s.first more
          (record { ok = c.fill_row.ensures.ok; err = c.fill_row.ensures.err; in_range = c.fill_row.ensures.in_range }),
    )
