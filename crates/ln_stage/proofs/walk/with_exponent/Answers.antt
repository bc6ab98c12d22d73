use Rattle.std.proofs.Common.{◌≡◌, ◌<◌, ◌∙◌, ap, arith, get_or, length, sym}
use Rattle.ln_tree.specs.Exps.{exponent}
use Rattle.ln_stage.specs.Kept.{term_at}
use Rattle.ln_stage.proofs.Walks.StepLemmas.{high-leaves, high-takes, place-is}
use Rattle.ln_stage.proofs.walk.with_exponent.Goals as goal
use Rattle.ln_stage.proofs.walk.with_exponent.Goals.{then-exponent_of-e+in_ok-push, else-exponent_of-e}

pub kept-preserved : goal.kept-preserved
kept-preserved c =
    let f = c.args.f.now in
    let b : get_or c.args.kept.now c.kept.i-index 0 < length c.args.f.now = c.requires c.kept.i-index 0 c.kept-test.true in
    let t = place-is c.args.f.now (get_or c.args.kept.now c.kept.i-index 0) c.index-f-i.result b c.index-f-i.is in
    let p : c.pairs.result.now ≡ c.index-f-i.result.0 = c.pairs.ensures.value ∙ ap (λ z. z.0) (sym c.index-f-i.is) in
    let x : c.exponent_of.result ≡ exponent c.args.v (term_at c.args.f.now (get_or c.args.kept.now c.kept.i-index 0)).0 =
    c.exponent_of.ensures.value ∙ ap (exponent c.args.v) (p ∙ ap (λ z. z.0) t) in
    elim c.if-exponent_of-e.branch [
      | then-exponent_of-e+in_ok-push w ↦ rw w.high-is (high-takes f c.args.v c.args.e c.kept.i-index c.args.kept.now c.kept.high.items _
          c.kept-test.true c.kept.invariant (omega (arith, w.if-exponent_of-e.true, x)) w.in_ok-push.ensures.items)
      | else-exponent_of-e w ↦ rw w.high-is (high-leaves f c.args.v c.args.e c.kept.i-index c.args.kept.now c.kept.high.items
          c.kept-test.true c.kept.invariant (omega (arith, w.if-exponent_of-e.false, x)))
    ]
