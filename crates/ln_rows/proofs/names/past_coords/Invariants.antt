use Rattle.std.proofs.Common.{map, take}
use Rattle.csv.specs.Records.{fields_of}
use Rattle.ln_rows.specs.Columns.{coord_column, StandAt}
use Rattle.ln_rows.proofs.names.past_coords.Given as goal

abbrev pub invariant-coords : goal.invariant-coords
invariant-coords l = StandAt (map (coord_column l.site) (take l.coord-index l.coords)) (fields_of l.fields) l.at l.to
