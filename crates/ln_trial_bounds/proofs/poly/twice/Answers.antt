use Rattle.std.proofs.Common.{◌≡◌, [], ◌∷◌, arith}
use Rattle.std.proofs.Math.IntN.{pos}
use Rattle.ln_poly.specs.Sparse.{size_of}
use Rattle.ln_poly.proofs.TermLists.Coefficients.{size-cons, size-nil}
use Rattle.ln_trial_bounds.proofs.poly.twice.Goals as goal

pub add-requires : goal.add-requires
add-requires c =
    let e : size_of c.in_ok-x.x ≡ 1 = rw c.in_ok-x.ensures (omega (arith, size-cons ((0, 1) ∷ [], pos 1) [], size-nil)) in
    omega (arith, e)

pub mul-requires-clause-room : goal.mul-requires-clause-room
mul-requires-clause-room c =
    let e : size_of c.in_ok-x.x ≡ 1 = rw c.in_ok-x.ensures (omega (arith, size-cons ((0, 1) ∷ [], pos 1) [], size-nil)) in
    rw e (omega arith)
