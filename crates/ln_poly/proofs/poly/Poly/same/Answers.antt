use Rattle.std.proofs.Common.{◌≡◌, sym, ◌∙◌, ap}
use Rattle.ln_poly.proofs.Sorting.Equality.{same_term, same_terms-is, same_terms-refl}
use lib.Pointwise.{pointwise}
use Rattle.ln_poly.proofs.poly.Poly.same.Goals as goal

pub returns : goal.returns
returns c =
    let p : c.as_slice.result.now ≡ c.args.self.now = c.as_slice.ensures ∙ c.self.view_is in
    let q : c.as_slice-2.result.now ≡ c.args.other.now = c.as_slice-2.ensures ∙ c.other.view_is in
    let e : c.eq.result ≡ pointwise same_term c.args.self.now c.args.other.now = rw (p, q) at c.eq.ensures in
    (λ h. same_terms-is _ _ (sym e ∙ h), λ h. e ∙ ap (pointwise same_term c.args.self.now) (sym h) ∙ same_terms-refl c.args.self.now)
