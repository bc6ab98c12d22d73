use Rattle.std.proofs.Common.{arith, sym, ◌∙◌}
use Rattle.csv.specs.Records.{fields_of}
use Rattle.ln_tree.proofs.KeptLemmas.{laid_out}
use Rattle.ln_rows.proofs.Fields.RangeLemmas.{shape_columns}
use Rattle.ln_rows.proofs.Fields.RowLemmas.{begun_none, begun_read, on_err, stays_past}
use Rattle.ln_rows.proofs.record.row_over.Goals as goal

pub read_columns-requires-clause-few_sites : goal.read_columns-requires-clause-few_sites
read_columns-requires-clause-few_sites c =
    omega (arith, shape_columns c.args.sites c.args.vars.now c.requires, (laid_out c.args.sites c.args.vars.now c.requires).few_sites)

pub returns-in_err-read_columns-clause-past : goal.returns-in_err-read_columns-clause-past
returns-in_err-read_columns-clause-past c =
    stays_past c.args.sites c.args.vars.now _ _ (shape_columns c.args.sites c.args.vars.now c.requires) c.read_columns.ensures.past

pub returns-clause-ok : goal.returns-clause-ok
returns-clause-ok c = (c.differ.ensures (fields_of c.args.fields.now)
    (sym c.len.ensures ∙ c.if-len-column_count.false ∙ c.column_count.ensures) c.in_ok-read_columns.ensures.ok).ok

pub returns-clause-err : goal.returns-clause-err
returns-clause-err c = (c.differ.ensures (fields_of c.args.fields.now)
    (sym c.len.ensures ∙ c.if-len-column_count.false ∙ c.column_count.ensures) c.in_ok-read_columns.ensures.ok).err

pub returns-clause-in_range : goal.returns-clause-in_range
returns-clause-in_range c = (c.differ.ensures (fields_of c.args.fields.now)
    (sym c.len.ensures ∙ c.if-len-column_count.false ∙ c.column_count.ensures) c.in_ok-read_columns.ensures.ok).in_range

pub returns-clause-past : goal.returns-clause-past
returns-clause-past c = stays_past c.args.sites c.args.vars.now _ _ (shape_columns c.args.sites c.args.vars.now c.requires) c.read_columns.ensures.past

pub returns-then-len-column_count-clause-begun : goal.returns-then-len-column_count-clause-begun
returns-then-len-column_count-clause-begun c = begun_none c.args.vars.now (fields_of c.args.fields.now) _

pub returns-clause-begun : goal.returns-clause-begun
returns-clause-begun c = on_err c.differ.result _ (begun_read c.args.sites c.args.vars.now (fields_of c.args.fields.now) _ _
    (shape_columns c.args.sites c.args.vars.now c.requires) c.in_ok-read_columns.ensures.ok c.read_columns.ensures.past)
