use Rattle.std.proofs.Common.{[], ◌∷◌, refl}
use Rattle.ln_edges.specs.Points.{point_of}
use Rattle.ln_edges.proofs.RowLemmas.{holds_none}
use Rattle.ln_edges.proofs.edge.pair_row.Goals as goal

pub returns : goal.returns
returns c =
    c.put_point-2.ensures.more (point_of c.args.width c.args.a.now ∷ []) refl
    (c.put_point.ensures.more [] refl (holds_none _ _))
