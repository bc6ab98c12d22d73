use Rattle.std.proofs.Common.{◌-◌, ◌^◌, ◌∙◌}
use Rattle.ln_rows.specs.Columns.{arg_columns}
use Rattle.ln_rows.proofs.Fields.NameLemmas.{room_more}
use Rattle.ln_rows.proofs.names.room.Goals as goal

pub each-preserved : goal.each-preserved
each-preserved c =
    c.saturating_add-room.ensures ∙ room_more (arg_columns c.args.t.now.sites c.args.t.now.params) c.args.p.now.args c.each.arg-index
    c.arg-item.result c.each.room c.arg_width.result (2 ^ 64 - 1)
    (rw c.as_slice-arg-items.ensures at c.each-test.true) (rw c.as_slice-arg-items.ensures at c.arg-item.is) c.each.invariant c.arg_width.ensures
