use Rattle.std.proofs.Common.{sym}
use Rattle.std.proofs.lemmas.Result.{IfErr-weaker, IfOk-weaker}
use Rattle.ln_top.proofs.JudgesLemmas.EdgesLaws.{return_points, return_short, return_stop, return_wrong}
use Rattle.ln_top.proofs.judges.edges.points.Goals as goal
use Rattle.ln_top.proofs.judges.edges.points.Goals.{in-Ok-true, in-Ok-false, in-Err}

pub returns-clause-ok : goal.returns-clause-ok
returns-clause-ok c = elim c.match-point_header.branch [
  | in-Ok-true w ↦ rw w.points-is (IfOk-weaker w.points_after-points.result _ _ (λ v h. return_points c.args.ready.now
      c.point_type-site.result.now _ _ c.point_type-site.ensures.is c.one_text.ensures (sym c.in_ok-rows.ensures.records) _ v.items
      (w.in-Ok-true.ensures.right w.in-Ok-true.field-0-test) h) w.points_after-points.ensures.ok)
  | in-Ok-false w ↦ rw w.points-is tt
  | in-Err w ↦ rw w.points-is tt
]

pub returns-clause-err : goal.returns-clause-err
returns-clause-err c = elim c.match-point_header.branch [
  | in-Ok-true w ↦ rw w.points-is (IfErr-weaker w.points_after-points.result _ _ (λ x h. return_stop c.args.ready.now
      c.point_type-site.result.now _ _ c.point_type-site.ensures.is c.one_text.ensures (sym c.in_ok-rows.ensures.records) _ x
      (w.in-Ok-true.ensures.right w.in-Ok-true.field-0-test) h) w.points_after-points.ensures.err)
  | in-Ok-false w ↦ rw w.points-is (return_wrong c.args.ready.now c.point_type-site.result.now _ _ c.point_type-site.ensures.is
      c.one_text.ensures (sym c.in_ok-rows.ensures.records) (w.in-Ok-false.ensures.wrong w.in-Ok-false.field-0-test))
  | in-Err w ↦ rw w.points-is (return_short c.args.ready.now c.point_type-site.result.now _ _ c.point_type-site.ensures.is
      c.one_text.ensures (sym c.in_ok-rows.ensures.records))
]
