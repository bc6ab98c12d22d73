use Rattle.std.proofs.Common.{arith}
use Rattle.ln_rows.proofs.Fields.RangeLemmas.{shape_columns}
use Rattle.ln_rows.proofs.record.column_count.Goals as goal

pub returns : goal.returns
returns c = let e = shape_columns c.args.sites c.args.vars.now c.requires in omega (arith, e)
