use Rattle.std.proofs.Common.{◌≡◌, [], ◌∷◌, arith}
use Rattle.std.proofs.Math.IntN.{pos}
use Rattle.ln_poly.proofs.TermLists.Leaves.{one-term}
use Rattle.ln_trial_bounds.proofs.poly.x0.Goals as goal

pub seal-requires : goal.seal-requires
seal-requires c = rw (c.in_ok-push-2.ensures.ok, c.new-terms.ensures, c.in_ok-push.ensures.ok, c.new-exps.ensures)
    (one-term ((0, 1) ∷ []) (pos 1) (omega arith, omega arith, tt, tt) (λ q. absurd (let n : pos 1 ≡ pos 0 = q in cc)) (omega arith))
