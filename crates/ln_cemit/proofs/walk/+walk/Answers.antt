-- Answers to the goals of the functions of the cycle `walk` in src/walk.rt.
use Rattle.std.proofs.Common.{arith, refl, suc, ◌-◌, ◌≡◌}
use Rattle.std.proofs.lemmas.Result.{IfOk-weaker}
use Rattle.ln_code.specs.Lists.{segment_of}
use Rattle.ln_cemit.proofs.Writing.Loops.{picks_done, picks_first, picks_next, walked_end, walked_on}
use Rattle.ln_cemit.proofs.walk.+walk.Goals as goal

pub put_picks-left-init : goal.put_picks-left-init
put_picks-left-init t c = picks_first _ c.args.at.now.left.now c.if-is_empty.ensures

pub put_picks-returns : goal.put_picks-returns
put_picks-returns t c = picks_done _ c.args.at.now.left.now c.left.k (omega arith) c.left.invariant

pub put_walked-returns-then-d-eq0 : goal.put_walked-returns-then-d-eq0
put_walked-returns-then-d-eq0 t c = IfOk-weaker c.put_nothing.result _ _ (λ _ p. walked_end _ _ (segment_of c.args.at.now.program.now) _ c.args.d
    c.args.at.now.front.now c.args.at.now.left.now c.name_of-name.ensures c.segment_at-segment.ensures c.if-d-eq0.true c.in_ok-put_tries.ensures p)
    c.put_nothing.ensures

pub put_walked-returns : goal.put_walked-returns
put_walked-returns t c =
    let e : c.args.d ≡ suc (c.args.d - 1) = omega (arith, c.if-d-eq0.false) in
    IfOk-weaker c.put_picks.result _ _ (λ _ p. walked_on _ _ (segment_of c.args.at.now.program.now) _ c.args.d (c.args.d - 1)
    c.args.at.now.front.now c.args.at.now.left.now c.name_of-name.ensures c.segment_at-segment.ensures e c.in_ok-put_tries.ensures p) c.put_picks.ensures

pub put_picks-left-preserved : goal.put_picks-left-preserved
put_picks-left-preserved t c = picks_next _ c.args.at.now.left.now c.behind-others.result.now c.left.k _ _
    (omega arith) refl c.behind-others.ensures c.left.invariant c.in_ok-put_pick.ensures
