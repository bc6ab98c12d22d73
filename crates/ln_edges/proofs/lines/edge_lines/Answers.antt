use Rattle.std.proofs.Common.{◌≡◌, length, arith, subst, ℕ, []}
use Rattle.ln_edges.proofs.PairLemmas.{so_far_all}
use Rattle.ln_edges.proofs.RowLemmas.{points_size}
use Rattle.ln_edges.specs.Edges.{points_in}
use Rattle.ln_edges.specs.Lines.{EdgesSoFar}
use Rattle.ln_edges.proofs.lines.edge_lines.Goals as goal

pub returns : goal.returns
returns c =
    let many = length (points_in c.args.p.now.shape.vars c.args.points.now) in
    let size : many ≡ length c.args.points.now = points_size _ _ in
    let end : c.first.i ≡ many = omega (arith, size, c.first-test.false, c.first.invariant.within) in
    so_far_all _ _ many _ (λ k l h. h.first)
    (subst (λ (n : ℕ). EdgesSoFar c.args.p.now c.args.points.now [] n 0 c.first.text.items) end
    c.first.invariant.so_far)

pub first-preserved : goal.first-preserved
first-preserved c = record {
  made = c.add_from.ensures.made;
  within = omega (arith, c.first-test.true);
  so_far = c.in_ok-add_from.ensures.adds [] c.first.invariant.so_far;
}
