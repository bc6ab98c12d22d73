use Rattle.std.proofs.Common.{◌≡◌, true, rules}
use Rattle.ln_rows.proofs.Records.RowsLemmas.{row_taken}
use Rattle.ln_rows.proofs.left.Left.take_row.Goals as goal

pub returns-in-Some : goal.returns-in-Some
returns-in-Some c =
    let reads : c.reads_bytes.result ≡ true = search rules in
    row_taken _ _ c.self.inside.quoted _ _ _ _ c.self.view_is (c.reads_bytes.ensures reads) c.past_ends.ensures c.in-Some.ensures
