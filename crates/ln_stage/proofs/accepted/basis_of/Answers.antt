use Rattle.ln_tree.specs.Table.{pred_of}
use Rattle.ln_stage.proofs.Accepting.{is-some, no-passes}
use Rattle.ln_stage.proofs.accepted.basis_of.Goals as goal

pub listed-requires-clause-some : goal.listed-requires-clause-some
listed-requires-clause-some c =
    let e = c.in_ok-poly.ensures in is-some (pred_of c.args.p.now) c.in_ok-poly.poly e.sound e.normal

pub listed-requires-clause-below : goal.listed-requires-clause-below
listed-requires-clause-below c = c.in_ok-poly.ensures.normal.below

pub listed-requires-clause-few : goal.listed-requires-clause-few
listed-requires-clause-few c =
    let e = c.in_ok-poly.ensures in no-passes (pred_of c.args.p.now) c.in_ok-poly.poly e.sound e.normal
