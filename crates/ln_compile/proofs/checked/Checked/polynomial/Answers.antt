use Rattle.std.proofs.Common.{sym, subst, ◌∙◌}
use Rattle.std.proofs.lemmas.Result.{IfOk-weaker}
use Rattle.ln_tree.specs.Table.{pred_of}
use Rattle.ln_poly.specs.Sparse.{Sparse}
use Rattle.ln_compile.specs.Polynomial.{IsPolynomialOf}
use Rattle.ln_compile.proofs.Numbers.{holds_at}
use Rattle.ln_compile.proofs.Smallness.Polynomials.{is-polynomial}
use Rattle.ln_compile.proofs.checked.Checked.polynomial.Goals as goal

pub returns : goal.returns
returns c =
    let a = c.accepted.result in
    IfOk-weaker c.copy.result _ _ (λ f e.
    holds_at (λ p. IsPolynomialOf p f) c.args.self.now.table.preds c.args.i a.pred c.accepted.ensures.pred
    (subst (λ (g : Sparse). IsPolynomialOf (pred_of a.pred) g) (sym (e ∙ c.poly.ensures)) (is-polynomial (pred_of a.pred) a.poly
    c.accepted.ensures.kept.expanded))) c.copy.ensures
