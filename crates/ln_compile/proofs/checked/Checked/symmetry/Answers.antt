use Rattle.ln_compile.specs.Symmetry.{IsSymmetryOf}
use Rattle.ln_compile.proofs.Numbers.{holds_at}
use Rattle.ln_compile.proofs.Smallness.Polynomials.{symmetry-is}
use Rattle.ln_compile.proofs.checked.Checked.symmetry.Goals as goal

pub returns : goal.returns
returns c =
    let a = c.accepted-a.result in let e = c.symmetry_of.ensures in
    holds_at (λ p. IsSymmetryOf p c.symmetry_of.result) c.args.self.now.table.preds c.args.i a.pred c.accepted-a.ensures.pred
    (symmetry-is a.pred a.poly c.symmetry_of.result c.accepted-a.ensures.kept.expanded.normal
    (rw (c.pred.ensures.value, c.poly.ensures) at e.found) (rw (c.pred.ensures.value, c.poly.ensures) at e.none))
