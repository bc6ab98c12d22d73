use Rattle.std.proofs.Common.{refl, sym, true≢false, arith}
use Rattle.ln_edges.proofs.RowLemmas.{few, passed_more, points_size}
use Rattle.ln_edges.proofs.edge.is_edge.Goals as goal

pub pair_row-row-requires : goal.pair_row-row-requires
pair_row-row-requires c = rw c.width.ensures (few _ _ _ c.requires.points)

pub returns-then-not-is_passed-clause-edge : goal.returns-then-not-is_passed-clause-edge
returns-then-not-is_passed-clause-edge c = (
  λ t. absurd (true≢false (sym t)),
  λ m. c.if-not-is_passed.ensures.passed.1 (m c.others.k
      (rw (points_size c.args.p.now.shape.vars c.args.points.now) c.others-test.true)),
)

pub others-preserved : goal.others-preserved
others-preserved c = record {
  made = c.is_passed.ensures.made;
  held = c.is_passed.ensures.held;
  within = omega (arith, c.others-test.true);
  plus = passed_more _ _ _ _ _ c.others.invariant.plus (c.if-not-is_passed.ensures.passed.0 refl);
}
