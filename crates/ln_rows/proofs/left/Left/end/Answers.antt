use Rattle.ln_rows.proofs.Records.RowsLemmas.{no_records}
use Rattle.ln_rows.proofs.left.Left.end.Goals as goal

pub returns : goal.returns
returns c = no_records
