use Rattle.std.proofs.Common.{refl}
use Rattle.std.proofs.lemmas.Bool.{false≢true}
use Rattle.ln_rows.specs.Columns.{coord_column}
use Rattle.ln_rows.proofs.Fields.NameLemmas.{coord_more, coord_stop}
use Rattle.ln_rows.proofs.names.past_coords.Goals as goal

pub returns-then-not-is_coord : goal.returns-then-not-is_coord
returns-then-not-is_coord c =
    coord_stop (coord_column c.args.site.now) _ c.coords.coord-index c.coord-item.result _ _ _ c.coords-test.true c.coord-item.is
    c.coords.invariant (λ e. false≢true (c.if-not-is_coord.ensures.value.1 e))

pub coords-preserved : goal.coords-preserved
coords-preserved c =
    coord_more (coord_column c.args.site.now) _ c.coords.coord-index c.coord-item.result _ _ _ c.coords-test.true c.coord-item.is
    c.coords.invariant (c.if-not-is_coord.ensures.value.0 refl)
