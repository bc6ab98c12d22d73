use Rattle.std.proofs.Common.{refl, sym, subst, ◌≡◌, length}
use Rattle.ln_edges.proofs.RowLemmas.{few, for_in_range, points_size, third_row}
use Rattle.ln_edges.specs.Edges.{IsPlus, points_in}
use Rattle.ln_edges.proofs.edge.is_passed.Goals as goal

pub put_point-requires-clause-width : goal.put_point-requires-clause-width
put_point-requires-clause-width c = rw c.width.ensures (few _ _ _ c.requires.points)

pub has_plus-requires-clause-row : goal.has_plus-requires-clause-row
has_plus-requires-clause-row c =
    let size : length (points_in c.args.p.now.shape.vars c.args.points.now)
    ≡ length c.args.points.now = points_size _ _ in
    rw (third_row _ _ _ _ _ _ _ _ _ _ c.requires.points c.width.ensures c.requires.third c.requires.held
    c.put_point.ensures.more)
    (for_in_range _ _ _ _ _ _ c.requires.points (rw size c.requires.first) (rw size c.requires.second)
    (rw size c.requires.third)
    c.requires.differ c.if-k-pair.false c.if-k-pair-2.false)

pub returns-clause-passed : goal.returns-clause-passed
returns-clause-passed c =
    let e = third_row _ _ _ _ _ _ _ _ _ _ c.requires.points c.width.ensures c.requires.third c.requires.held
    c.put_point.ensures.more in (
      λ t x y. subst (IsPlus c.args.p.now) e (c.has_plus.ensures.plus.0 t),
      λ h. c.has_plus.ensures.plus.1 (subst (IsPlus c.args.p.now) (sym e) (h c.if-k-pair.false c.if-k-pair-2.false)),
    )

pub returns-clause-held : goal.returns-clause-held
returns-clause-held c = rw c.width.ensures at c.put_point.ensures.kept _ refl c.requires.held
