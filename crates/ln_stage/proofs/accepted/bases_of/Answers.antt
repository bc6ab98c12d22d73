use Rattle.std.proofs.Common.{arith, refl}
use Rattle.std.proofs.lemmas.Option.{slice_get_read}
use Rattle.ln_stage.specs.Accepted.{IsBasis}
use Rattle.ln_stage.proofs.Zipped.{sound-of, zipped-more}
use Rattle.ln_stage.proofs.accepted.bases_of.Goals as goal

pub basis_of-requires : goal.basis_of-requires
basis_of-requires c = sound-of c.args.preds.now c.each.i c.index-preds-i.result c.requires
    (slice_get_read c.args.preds.now _ c.each.i c.index-preds-i.result refl (omega (arith, c.each-test.true)) c.index-preds-i.is)

pub each-preserved : goal.each-preserved
each-preserved c =
    zipped-more IsBasis c.args.preds.now c.each.i c.index-preds-i.result c.each.bases c.push.new.self c.in_ok-basis.basis
    (omega (arith, c.each-test.true)) c.index-preds-i.is c.in_ok-push.ensures.ok c.in_ok-basis.ensures c.each.invariant
