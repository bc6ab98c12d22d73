-- The remaining goals of `negated`.
use Rattle.std.proofs.Common.{◌∙◌, ap, subst, sym}
use Rattle.ln_poly.specs.Sparse.{IsPoly, negated}
use Rattle.ln_poly.proofs.TermLists.Negating.{poly-negated}
use Rattle.ln_poly.proofs.poly.Poly.negated.Goals as goal

pub seal-requires : goal.seal-requires
seal-requires c = subst IsPoly (sym (c.from_vec.ensures ∙ c.negate.ensures ∙ ap negated c.into_terms-terms.ensures.value))
    (poly-negated c.args.self c.into_terms-terms.ensures.form)
