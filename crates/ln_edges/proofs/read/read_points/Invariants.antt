use Rattle.std.proofs.Common.{◌-◌}
use Rattle.ln_edges.specs.Read.{coords_of, points_for}
use Rattle.ln_edges.proofs.ReadLemmas.{Reading}
use Rattle.ln_edges.proofs.read.read_points.Given as goal

abbrev pub decreases-records : goal.decreases-records
decreases-records l = 256 - l.number

abbrev pub invariant-records : goal.invariant-records
invariant-records l =
    Reading (coords_of l.site) l.initial.rows l.rows (points_for l.site l.points.items) l.fault l.number
