use Rattle.std.proofs.lemmas.Result.{IfOk-weaker}
use Rattle.ln_poly.proofs.TermLists.Turned.{some-below, some-product, some-size}
use Rattle.ln_poly.proofs.within.mul_in.Goals as goal

pub returns-clause-coefficients : goal.returns-clause-coefficients
returns-clause-coefficients c =
    IfOk-weaker c.fewer_rows.result _ _ (λ o r. some-product o c.args.f.now c.args.g.now r.rows) c.fewer_rows.ensures

pub returns-clause-size : goal.returns-clause-size
returns-clause-size c = IfOk-weaker c.fewer_rows.result _ _ (λ o r. some-size o c.args.f.now c.args.g.now r.rows) c.fewer_rows.ensures

pub returns-clause-form : goal.returns-clause-form
returns-clause-form c = IfOk-weaker c.fewer_rows.result _ _ (λ o r. r.form) c.fewer_rows.ensures

pub returns-clause-below : goal.returns-clause-below
returns-clause-below c = IfOk-weaker c.fewer_rows.result _ _ (λ o r. some-below o c.args.f.now c.args.g.now r.rows) c.fewer_rows.ensures

pub returns-clause-few : goal.returns-clause-few
returns-clause-few c = IfOk-weaker c.fewer_rows.result _ _ (λ o r. r.few) c.fewer_rows.ensures

pub returns-clause-none : goal.returns-clause-none
returns-clause-none c = IfOk-weaker c.fewer_rows.result _ _ (λ o r. r.none) c.fewer_rows.ensures
