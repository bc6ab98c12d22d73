use Rattle.std.proofs.Common.{drop, map}
use Rattle.csv.specs.Records.{fields_of}
use Rattle.ln_tree.specs.Table.{coord_of}
use Rattle.ln_edges.proofs.ReadLemmas.{ReadTo}
use Rattle.ln_edges.proofs.read.point_over.Given as goal

abbrev pub invariant-coords : goal.invariant-coords
invariant-coords l = ReadTo (map coord_of l.coords) (drop 1 (fields_of l.fields)) l.k l.values
