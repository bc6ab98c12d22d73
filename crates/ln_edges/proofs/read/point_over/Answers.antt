use Rattle.std.proofs.Common.{◌≡◌, ◌∙◌, refl, sym, subst, rules, to_z-of_z, w64, map, ℕ, List, Ok}
use Rattle.std.specs.Prelude.{IsErr}
use Rattle.std.proofs.lemmas.List.{length-map}
use mir.Val.{SFits}
use Rattle.csv.specs.Records.{fields_of}
use Rattle.ln_tree.specs.Table.{coord_of}
use Rattle.ln_rows.specs.Number.{number_in}
use Rattle.ln_edges.specs.declared.point.Point.{Point}
use Rattle.ln_edges.proofs.ReadLemmas.{after_first, after_size, coord_at, point_made, point_refused, read_all}
use Rattle.ln_edges.proofs.ReadLemmas.{read_more, read_none, read_stops, read_zero}
use Rattle.ln_edges.proofs.read.point_over.Goals as goal

pub coords-init : goal.coords-init
coords-init c = read_none _ _ _ refl

pub returns-in-None-clause-point : goal.returns-in-None-clause-point
returns-in-None-clause-point c =
    let many = length-map c.args.coords.now coord_of in
    let size = after_size _ _ c.requires.size ∙ sym many in
    let err = subst (λ (f : List ℕ). IsErr (number_in c.index-coords-k.result.lo c.index-coords-k.result.hi f))
    (after_first (fields_of c.args.fields.now) c.coords.k) c.in-None.ensures in
    sym (point_refused (map coord_of c.args.coords.now) (fields_of c.args.fields.now)
    (read_stops _ _ _ _ (coord_of c.index-coords-k.result) size (rw many c.coords-test.true)
    (coord_at c.args.coords.now c.coords.k c.index-coords-k.result c.coords-test.true c.index-coords-k.is) err
    c.coords.invariant))

pub coords-preserved : goal.coords-preserved
coords-preserved c =
    let fit : SFits w64 c.in-Some.z = search rules in
    let many = length-map c.args.coords.now coord_of in
    let size = after_size _ _ c.requires.size ∙ sym many in
    let ok = subst (λ (f : List ℕ). number_in c.index-coords-k.result.lo c.index-coords-k.result.hi f ≡ Ok c.in-Some.z)
    (after_first (fields_of c.args.fields.now) c.coords.k) c.in-Some.ensures in
    rw (to_z-of_z fit) (read_more _ _ _ _ (coord_of c.index-coords-k.result) c.in-Some.z (rw many c.requires.few) size
    (rw many c.coords-test.true)
    (coord_at c.args.coords.now c.coords.k c.index-coords-k.result c.coords-test.true c.index-coords-k.is) ok
    c.coords.invariant)

pub returns-clause-point : goal.returns-clause-point
returns-clause-point c =
    let fit : SFits w64 c.in-Ok.index = search rules in
    let many = length-map c.args.coords.now coord_of in
    let size = after_size _ _ c.requires.size ∙ sym many in
    let p : Point = record { index = c.in-Ok.index; values = c.coords.values } in
    rw (to_z-of_z fit) (point_made (map coord_of c.args.coords.now) (fields_of c.args.fields.now) p
    (rw many c.requires.size) (sym (rw c.field.ensures at c.in-Ok.ensures))
    (read_all _ _ _ _ size (rw many c.coords-test.false) c.coords.invariant))

pub returns-clause-zero : goal.returns-clause-zero
returns-clause-zero c =
    let many = length-map c.args.coords.now coord_of in
    read_zero _ _ _ _ (rw many c.coords-test.false) c.coords.invariant
