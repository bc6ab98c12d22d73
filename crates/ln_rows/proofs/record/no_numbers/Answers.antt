use Rattle.ln_rows.proofs.Fields.RowLemmas.{all_zero}
use Rattle.ln_rows.proofs.record.no_numbers.Goals as goal

pub returns : goal.returns
returns c = all_zero
