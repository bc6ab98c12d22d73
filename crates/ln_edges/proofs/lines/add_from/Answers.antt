use Rattle.std.proofs.Common.{◌≡◌, length, arith, subst, ℕ}
use Rattle.ln_edges.proofs.PairLemmas.{so_far_next}
use Rattle.ln_edges.proofs.RowLemmas.{points_size}
use Rattle.ln_edges.specs.Edges.{points_in}
use Rattle.ln_edges.specs.Lines.{EdgesSoFar}
use Rattle.ln_edges.proofs.lines.add_from.Goals as goal

pub returns-clause-adds : goal.returns-clause-adds
returns-clause-adds c =
    let many = length (points_in c.args.p.now.shape.vars c.args.points.now) in
    let size : many ≡ length c.args.points.now = points_size _ _ in
    let end : c.second.j ≡ many = omega (arith, size, c.second-test.false, c.second.invariant.within) in
    λ start s. so_far_next _ _ start c.args.i _ _ (λ k l h. h.second)
    (subst (λ (n : ℕ). EdgesSoFar c.args.p.now c.args.points.now start c.args.i n c.second.text.items) end
    (c.second.invariant.so_far start s))

pub second-preserved : goal.second-preserved
second-preserved c = record {
  made = c.add_pair.ensures.made;
  within = omega (arith, c.second-test.true);
  so_far = λ start s. c.in_ok-add_pair.ensures.adds start (c.second.invariant.so_far start s);
}
