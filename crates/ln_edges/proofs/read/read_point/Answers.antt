use Rattle.std.proofs.Common.{map, sym, ◌∙◌}
use Rattle.std.proofs.lemmas.List.{length-map}
use Rattle.csv.specs.Records.{fields_of}
use Rattle.ln_tree.specs.Table.{coord_of}
use Rattle.ln_edges.proofs.ReadLemmas.{other_point}
use Rattle.ln_edges.proofs.read.read_point.Goals as goal

pub returns-then-len-coords-clause-point : goal.returns-then-len-coords-clause-point
returns-then-len-coords-clause-point c =
    let many = length-map c.args.site.now.coords coord_of in
    sym (other_point (map coord_of c.args.site.now.coords) (fields_of c.args.fields.now)
    (rw many (λ e. c.if-len-coords.true (c.len.ensures ∙ rw c.as_slice-coords.ensures e))))
