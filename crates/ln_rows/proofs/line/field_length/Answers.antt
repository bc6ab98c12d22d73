use Rattle.std.proofs.Common.{arith, rules}
use Rattle.ln_rows.specs.Line.{is_no_comma}
use Rattle.ln_rows.proofs.Records.LineLemmas.{more_pass}
use Rattle.ln_rows.proofs.line.field_length.Goals as goal

pub field-preserved : goal.field-preserved
field-preserved c = (omega (arith, c.field-test.true), more_pass is_no_comma _ _ c.field-test.true c.field.invariant.1 (search rules))
