-- Answers to the goals of `taken` in src/shared_poly.rt.
use Rattle.std.proofs.Common.{◌∙◌, ap}
use Rattle.ln_poly.specs.Sparse.{Sparse, negated}
use Rattle.ln_verify.specs.Signed.{signed}
use Rattle.ln_verify.proofs.Polynomials.Negations.{turned-over}
use Rattle.ln_verify.proofs.shared_poly.SharedPoly.taken.Goals as goal

pub returns : goal.returns
returns c =
    ap (λ (z : Sparse). signed c.args.minus z) (c.negated.ensures ∙ ap (λ (z : Sparse). negated z) c.in_ok-f.ensures)
    ∙ turned-over c.self.inside.minus c.args.minus c.self.inside.poly.value c.if-own-minus.false
    ∙ c.self.view_is
