use Rattle.std.proofs.Common.{rules}
use Rattle.ln_top.proofs.SignsLemmas.ExplainedRows.{blocks_say, refused_says}
use Rattle.ln_top.proofs.TargetLemmas.TargetLaws.{row_for}
use Rattle.ln_top.proofs.signs.explain.ExplainerRecordWriter.add.Goals as goal

pub explain_row-requires-clause-row : goal.explain_row-requires-clause-row
explain_row-requires-clause-row c =
    rw c.program.ensures (row_for _ c.args.self.now.target.pred c.args.self.now.target.program c.args.found.row.now c.requires.fits.1 (search rules))

pub returns-in_ok-explain_row-in-Ok-clause-line : goal.returns-in_ok-explain_row-in-Ok-clause-line
returns-in_ok-explain_row-in-Ok-clause-line c = λ fields r ps k.
    let t = c.args.self.now.target in
    blocks_say t.pred t.program t.names fields _ _ _ _ (rw k.1 at c.requires.fits.1) (rw c.in-Ok.is at r.ok)
    (rw (c.program.ensures, c.from.ensures) at c.in_ok-explain_row-in-Ok.ensures.ok)

pub returns-in_ok-put_refused-in-Err-clause-line : goal.returns-in_ok-put_refused-in-Err-clause-line
returns-in_ok-put_refused-in-Err-clause-line c = λ fields r ps k.
    let t = c.args.self.now.target in
    refused_says t.pred t.names fields _ _ _ _ (rw c.in-Err.is at r.err) c.in_ok-put_refused-in-Err.ensures.ok
