use Rattle.std.proofs.lemmas.Result.{IfOk-weaker}
use Rattle.ln_poly.proofs.TermLists.Turned.{within-turned}
use Rattle.ln_poly.proofs.within.fewer_rows.Goals as goal

pub returns-then-terms : goal.returns-then-terms
returns-then-terms c = IfOk-weaker c.rows_within.result _ _ (λ o r. within-turned o c.args.f.now c.args.g.now c.args.most r) c.rows_within.ensures
