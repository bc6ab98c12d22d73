use Rattle.std.proofs.Common.{◌∙◌, refl}
use Rattle.std.proofs.lemmas.Result.{err_from_is_err_and}
use Rattle.ln_syntax.specs.Raw.{items}
use Rattle.ln_names.proofs.Walking.{body_parts, stops_first, stops_later}
use Rattle.ln_names.proofs.walk.pred_nodes.Goals as goal

pub returns-in_err-values-clause-err : goal.returns-in_err-values-clause-err
returns-in_err-values-clause-err c =
    let p = err_from_is_err_and c.from_residual.result c.from_residual.ensures.1 in
    rw (p.1, p.2, body_parts c.args.bytes.now c.args.ts.now (items c.args.seen.before.now) c.args.seen.args.now c.args.seen.lets.now c.args.root)
    (stops_first _ _ _ c.in_err-values.ensures.err)

pub returns-in_err-value-clause-err : goal.returns-in_err-value-clause-err
returns-in_err-value-clause-err c =
    let p = err_from_is_err_and c.from_residual-in_err-value.result c.from_residual-in_err-value.ensures.1 in
    rw (p.1, p.2, body_parts c.args.bytes.now c.args.ts.now (items c.args.seen.before.now) c.args.seen.args.now c.args.seen.lets.now c.args.root)
    (stops_later _ _ _ c.in_ok-values.ensures.fine (rw c.in_ok-values.ensures.count at c.in_err-value.ensures.err))

pub returns-clause-fine : goal.returns-clause-fine
returns-clause-fine c =
    let l = c.in_ok-values.ensures.fine in
    let v = rw c.in_ok-values.ensures.count at c.in_ok-value.ensures.fine in
    body_parts c.args.bytes.now c.args.ts.now (items c.args.seen.before.now) c.args.seen.args.now c.args.seen.lets.now c.args.root ∙ rw (l, v) refl
