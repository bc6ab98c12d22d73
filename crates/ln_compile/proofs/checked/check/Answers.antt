use Rattle.std.proofs.Common.{map}
use Rattle.std.proofs.lemmas.Result.{err_from_is_err_and}
use Rattle.ln_tree.specs.Table.{pred_of, table_of}
use Rattle.ln_compile.proofs.Making.BuildingLemmas.{based-sound}
use Rattle.ln_compile.proofs.Refusing.Judging.{pred_refusal, text_refusal}
use Rattle.ln_compile.proofs.Refusing.OneRefusal.{refusal_one, refusal_unaccepted}
use Rattle.ln_compile.proofs.checked.check.Goals as goal

pub returns-in-Err-clause-err : goal.returns-in-Err-clause-err
returns-in-Err-clause-err c = rw c.refusal_of.ensures (text_refusal c.args.bytes.now c.in-Err.e c.in-Err.ensures.err)

pub returns-in-Err-clause-unaccepted : goal.returns-in-Err-clause-unaccepted
returns-in-Err-clause-unaccepted c =
    rw c.refusal_of.ensures (refusal_unaccepted c.args.bytes.now _ (text_refusal c.args.bytes.now c.in-Err.e c.in-Err.ensures.err))

pub returns-in-Err-clause-one : goal.returns-in-Err-clause-one
returns-in-Err-clause-one c = rw c.refusal_of.ensures (refusal_one c.args.bytes.now _ (text_refusal c.args.bytes.now c.in-Err.e c.in-Err.ensures.err))

pub returns-in_err-bases-clause-err : goal.returns-in_err-bases-clause-err
returns-in_err-bases-clause-err c =
    let p = err_from_is_err_and c.from_residual.result c.from_residual.ensures.1 in
    let t = c.in-Ok.table in
    let e = rw c.as_slice.ensures at c.in_err-bases.ensures.err in
    rw (p.1, p.2) (pred_refusal c.args.bytes.now (table_of t.sites t.params t.preds) c.in_err-bases.field-0.0 c.in-Ok.ensures.ok e)

pub returns-in_err-bases-clause-unaccepted : goal.returns-in_err-bases-clause-unaccepted
returns-in_err-bases-clause-unaccepted c =
    let p = err_from_is_err_and c.from_residual.result c.from_residual.ensures.1 in
    let t = c.in-Ok.table in
    let e = rw c.as_slice.ensures at c.in_err-bases.ensures.err in
    rw (p.1, p.2) (refusal_unaccepted c.args.bytes.now c.in_err-bases.field-0.0
    (pred_refusal c.args.bytes.now (table_of t.sites t.params t.preds) c.in_err-bases.field-0.0 c.in-Ok.ensures.ok e))

pub returns-in_err-bases-clause-one : goal.returns-in_err-bases-clause-one
returns-in_err-bases-clause-one c =
    let p = err_from_is_err_and c.from_residual.result c.from_residual.ensures.1 in
    let t = c.in-Ok.table in
    let e = rw c.as_slice.ensures at c.in_err-bases.ensures.err in
    rw (p.1, p.2) (refusal_one c.args.bytes.now c.in_err-bases.field-0.0
    (pred_refusal c.args.bytes.now (table_of t.sites t.params t.preds) c.in_err-bases.field-0.0 c.in-Ok.ensures.ok e))

pub returns-clause-ok : goal.returns-clause-ok
returns-clause-ok c = record {
  text = c.in-Ok.ensures.ok;
  sound = based-sound (map pred_of c.in-Ok.table.preds) c.in_ok-bases.bases (rw c.as_slice.ensures at c.in_ok-bases.ensures.bases);
}

pub invariant_of-result : goal.invariant_of-result
invariant_of-result c = rw c.as_slice.ensures at c.in_ok-bases.ensures.bases
