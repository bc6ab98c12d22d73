use Rattle.std.proofs.Common.{refl}
use Rattle.ln_rows.proofs.Records.RowsLemmas.{takes_all}
use Rattle.ln_rows.proofs.rows.Rows.next.Goals as goal

pub returns-clause-takes : goal.returns-clause-takes
returns-clause-takes c = rw (← c.self.view_is) (takes_all _ _ _ _ _ c.in_ok-found.ensures.takes refl)
