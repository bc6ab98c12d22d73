-- Answers to the goals of `opposite` in src/shared_poly.rt.
use Rattle.std.proofs.Common.{◌∙◌, ap}
use Rattle.ln_poly.specs.Sparse.{Sparse, negated}
use Rattle.ln_verify.proofs.Polynomials.Negations.{opposite-signed}
use Rattle.ln_verify.proofs.shared_poly.opposite.Goals as goal

pub returns : goal.returns
returns c = opposite-signed c.f.inside.minus c.f.inside.poly.value ∙ ap (λ (z : Sparse). negated z) c.f.view_is
