use Rattle.std.proofs.Common.{arith, rules}
use Rattle.ln_rows.specs.Line.{is_unquoted}
use Rattle.ln_rows.proofs.Records.LineLemmas.{more_pass}
use Rattle.ln_rows.proofs.line.line_length.Goals as goal

pub line-preserved : goal.line-preserved
line-preserved c = (omega (arith, c.line-test.true), more_pass is_unquoted _ _ c.line-test.true c.line.invariant.1 (search rules))
