use Rattle.std.proofs.Common.{arith, get_or, ◌≡◌, ◌∙◌}
use Rattle.ln_stage.proofs.Walks.PairsLemmas.{above-more, above-put, pairs-put, pairs-skip}
use Rattle.ln_stage.proofs.walk.pairs_of.Goals as goal
use Rattle.ln_stage.proofs.walk.pairs_of.Goals.{then-e-gt0+in_ok-push, else-e-gt0}

pub vars-preserved : goal.vars-preserved
vars-preserved c =
    let p = c.args.p.now in
    let i = c.vars.invariant in
    elim c.if-e-gt0.branch [
      | then-e-gt0+in_ok-push w ↦ rw (w.a-is, w.in_ok-push.ensures.ok) (record {
        all = pairs-put p c.vars.v c.vars.a (omega arith) w.if-e-gt0.true ∙ i.all;
        above = above-put c.vars.a c.vars.v (get_or p c.vars.v 0) i.above;
      })
      | else-e-gt0 w ↦ rw w.a-is (record {
        all = (let z : get_or p c.vars.v 0 ≡ 0 = omega (arith, w.if-e-gt0.false) in rw (pairs-skip p c.vars.v (omega arith) z) i.all);
        above = above-more c.vars.a c.vars.v i.above;
      })
    ]
