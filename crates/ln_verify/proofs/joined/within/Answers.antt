-- Answers to the goals of `within` in src/joined.rt.
use Rattle.std.proofs.Common.{◌∙◌, subst, sym}
use Rattle.std.specs.Prelude.{Some}
use Rattle.ln_bound.specs.declared.fitted.Two.TheVariants.{Times}
use Rattle.ln_poly.proofs.Expansions.Normals.{mul-normal}
use Rattle.ln_poly.specs.Sparse.{Sparse}
use Rattle.ln_verify.specs.Joined.{Joined}
use Rattle.ln_verify.proofs.Polynomials.Fitting.{all-powers, fits-at, misfit-large, product-large}
use Rattle.ln_verify.proofs.Values.Ranges.{not-true}
use Rattle.ln_verify.proofs.joined.within.Goals as goal

pub returns-then-not-all_fit : goal.returns-then-not-all_fit
returns-then-not-all_fit c n d e p q =
    misfit-large n d e c.args.f.now c.args.g.now p q (λ h. not-true _ (sym c.if-not-all_fit.true ∙ (fits-at c.all_fit.result
    c.terms.result.now c.terms-2.result.now c.args.f.now c.args.g.now c.all_fit.ensures c.terms.ensures.value c.terms-2.ensures.value).1 h))

pub mul_within-requires-clause-powers : goal.mul_within-requires-clause-powers
mul_within-requires-clause-powers c =
    all-powers c.args.f.now c.args.g.now c.terms.ensures.form.rising c.terms-2.ensures.form.rising ((fits-at c.all_fit.result c.terms.result.now
    c.terms-2.result.now c.args.f.now c.args.g.now c.all_fit.ensures c.terms.ensures.value c.terms-2.ensures.value).0 c.if-not-all_fit.false)

pub returns-in_default : goal.returns-in_default
returns-in_default c n d e p q =
    product-large n d e c.args.f.now c.args.g.now p q (rw c.in_default.is at c.in_ok-found.ensures.none)

pub returns : goal.returns
returns c =
    let size = rw c.in-Some.is at c.in_ok-found.ensures.size in
    let form = rw c.in-Some.is at c.in_ok-found.ensures.form in
    let below = rw c.in-Some.is at c.in_ok-found.ensures.below in
    let coefficients = rw c.in-Some.is at c.in_ok-found.ensures.coefficients in
    subst (λ (z : Sparse). Joined Times c.args.f.now c.args.g.now (Some z)) (sym c.in_ok-h.ensures)
    (size, λ n d e p q. mul-normal n d e c.args.f.now c.args.g.now c.in-Some.p p q form (below n p.below q.below) (λ m l. coefficients n m l))
