use Rattle.std.proofs.Common.{◌≡◌, sym, true, rules, length}
use Rattle.std.proofs.lemmas.List.{length-map}
use Rattle.ln_tree.specs.Table.{coord_of}
use Rattle.ln_edges.specs.Read.{coords_of}
use Rattle.ln_edges.proofs.ReadLemmas.{reading_more, reading_none}
use Rattle.ln_edges.proofs.read.read_points.Goals as goal

pub records-init : goal.records-init
records-init c = rw c.new-points.ensures.items (reading_none _ _)

pub records-preserved : goal.records-preserved
records-preserved c =
    let found : c.in_ok-next_within.field-0 ≡ true = search rules in
    let many : length c.args.site.now.coords ≡ length (coords_of c.args.site.now) = sym (length-map _ coord_of) in
    let takes = rw (c.as_slice.ensures, many) at c.in_ok-next_within.ensures.takes found in
    reading_more _ _ _ _ _ _ _ _ _ _ takes.1 c.if-number-eq256.false
    (λ done e s. c.in_ok-fault.ensures done takes.0 takes.2 e s) c.records.invariant
