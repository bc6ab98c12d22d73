use Rattle.std.proofs.Common.{ap, arith}
use Rattle.ln_tree.specs.Exps.{IsRising, exponent}
use Rattle.ln_poly.proofs.Derivations.Lowering.{lowered-small, lowering-above, lowering-push, lowering-skip}
use Rattle.ln_tree.proofs.Powers.{found, small-at}
use Rattle.ln_poly.proofs.derivatives.lowered.Goals as goal
use Rattle.ln_poly.proofs.derivatives.lowered.Goals.{then-k-gt0+in_ok-push, else-k-gt0}

pub lowered_pair-k-requires : goal.lowered_pair-k-requires
lowered_pair-k-requires c =
    let s : IsRising c.pairs-pairs.result.now = rw c.pairs-pairs.ensures.value c.pairs-pairs.ensures.rising in
    λ e.
    omega (arith, c.requires, ap (exponent c.args.v) c.pairs-pairs.ensures.value, found c.args.v c.pairs-pairs.result.now c.pairs.p-index s (omega arith) e)

pub push-requires-clause-above : goal.push-requires-clause-above
push-requires-clause-above c =
    let s : IsRising c.pairs-pairs.result.now = rw c.pairs-pairs.ensures.value c.pairs-pairs.ensures.rising in
    lowering-above _ _ _ _ _ c.pairs.invariant s (omega arith)

pub push-requires-clause-small : goal.push-requires-clause-small
push-requires-clause-small c =
    let s : IsRising c.pairs-pairs.result.now = rw c.pairs-pairs.ensures.value c.pairs-pairs.ensures.rising in
    lowered-small _ _ _ _ (small-at _ c.pairs.p-index s (omega arith)) c.lowered_pair-k.ensures.same c.lowered_pair-k.ensures.other

pub pairs-preserved : goal.pairs-preserved
pairs-preserved c =
    let s : IsRising c.pairs-pairs.result.now = rw c.pairs-pairs.ensures.value c.pairs-pairs.ensures.rising in
    elim c.if-k-gt0.branch [
      | then-k-gt0+in_ok-push w ↦ rw (w.out-is, w.in_ok-push.ensures.ok)
          (lowering-push _ _ _ _ _ _ c.pairs.invariant s (omega arith) c.lowered_pair-k.ensures.same c.lowered_pair-k.ensures.other w.if-k-gt0.true)
      | else-k-gt0 w ↦ rw w.out-is (lowering-skip _ _ _ _ _ c.lowered_pair-k.result c.pairs.invariant s
          (omega arith) c.lowered_pair-k.ensures.same c.lowered_pair-k.ensures.other (omega arith))
    ]
