use Rattle.std.proofs.Common.{arith, length, map, refl, ◌∙◌, ap, sym, Some}
use Rattle.std.proofs.lemmas.List.{length-map}
use Rattle.std.proofs.lemmas.Option.{slice_get_read}
use Rattle.std.proofs.lemmas.Slice.Zip.{AllZip-long}
use Rattle.ln_tree.specs.Table.{pred_of}
use Rattle.ln_stage.specs.Accepted.{IsBasis}
use Rattle.ln_stage.proofs.Zipped.{zipped-at}
use Rattle.ln_stage.proofs.accepted.Accepted.among.Goals as goal

pub bounds-bases-i : goal.bounds-bases-i
bounds-bases-i c =
    let n = AllZip-long IsBasis (map pred_of c.args.preds.now) c.args.bases.now c.requires.bases in
    omega (arith, n, length-map c.args.preds.now pred_of, c.requires.within)

pub seal-requires : goal.seal-requires
seal-requires c = zipped-at IsBasis c.args.preds.now c.args.bases.now c.args.i c.index-preds-i.result c.index-bases-i.result
    c.requires.bases c.requires.within c.index-preds-i.is c.index-bases-i.is

pub returns-clause-pred : goal.returns-clause-pred
returns-clause-pred c = rw c.seal.ensures (slice_get_read c.args.preds.now (length c.args.preds.now) c.args.i _ refl c.requires.within c.index-preds-i.is)

pub returns-clause-kept : goal.returns-clause-kept
returns-clause-kept c = rw c.seal.ensures (zipped-at IsBasis c.args.preds.now c.args.bases.now c.args.i c.index-preds-i.result c.index-bases-i.result
    c.requires.bases c.requires.within c.index-preds-i.is c.index-bases-i.is)
