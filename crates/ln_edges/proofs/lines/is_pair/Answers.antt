use Rattle.std.proofs.Common.{◌≡◌, length}
use Rattle.ln_edges.proofs.RowLemmas.{points_size}
use Rattle.ln_edges.specs.Edges.{points_in}
use Rattle.ln_edges.proofs.lines.is_pair.Goals as goal

pub returns-clause-edge : goal.returns-clause-edge
returns-clause-edge c =
    let size : length (points_in c.args.p.now.shape.vars c.args.points.now)
    ≡ length c.args.points.now = points_size _ _ in (
      λ t. record {
        first = rw size c.requires.first;
        second = rw size c.requires.second;
        differ = c.if-i-j.false;
        around = c.is_edge.ensures.edge.0 t;
      },
      λ h. c.is_edge.ensures.edge.1 h.around,
    )
