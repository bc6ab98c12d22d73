use Rattle.std.proofs.Common.{◌∙◌}
use Rattle.std.proofs.lemmas.Result.{err_from_is_err_and, on_ok_weaker, IfErr-weaker}
use Rattle.ln_syntax.specs.Raw.{items}
use Rattle.ln_names.proofs.Walking.{pred_parts, stops_first, stops_later}
use Rattle.ln_names.proofs.walk.item_nodes.Goals as goal

pub returns-in_err-passed-in-Pred-clause-err : goal.returns-in_err-passed-in-Pred-clause-err
returns-in_err-passed-in-Pred-clause-err c =
    let p = err_from_is_err_and c.from_residual-in_err-passed-in-Pred.result c.from_residual-in_err-passed-in-Pred.ensures.1 in
    let h = rw (c.head_fault.ensures, c.deref-in-Pred.ensures.value) at c.in_err-passed-in-Pred.ensures.err in
    rw (
      p.1,
      p.2,
      c.in-Pred.is,
      pred_parts c.args.bytes.now c.args.ts.now (items c.args.before.now) c.in-Pred.name c.in-Pred.args.items c.in-Pred.lets.items c.in-Pred.root,
    )
    (stops_first _ _ _ h)

pub returns-in_ok-passed-in-Pred-clause-fine : goal.returns-in_ok-passed-in-Pred-clause-fine
returns-in_ok-passed-in-Pred-clause-fine c =
    let h = rw (c.head_fault.ensures, c.deref-in-Pred.ensures.value) at c.in_ok-passed-in-Pred.ensures.fine in
    let f = rw (c.deref-in-Pred-2.ensures.value, c.deref-in-Pred-3.ensures.value) at c.pred_nodes.ensures.fine in
    rw c.in-Pred.is (on_ok_weaker c.pred_nodes.result (λ k.
    pred_parts c.args.bytes.now c.args.ts.now (items c.args.before.now) c.in-Pred.name c.in-Pred.args.items c.in-Pred.lets.items c.in-Pred.root
    ∙ rw h k) f)

pub returns-in_ok-passed-in-Pred-clause-err : goal.returns-in_ok-passed-in-Pred-clause-err
returns-in_ok-passed-in-Pred-clause-err c =
    let h = rw (c.head_fault.ensures, c.deref-in-Pred.ensures.value) at c.in_ok-passed-in-Pred.ensures.fine in
    let f = rw (c.deref-in-Pred-2.ensures.value, c.deref-in-Pred-3.ensures.value) at c.pred_nodes.ensures.err in
    rw c.in-Pred.is (IfErr-weaker c.pred_nodes.result _ _ (λ e k.
    rw (pred_parts c.args.bytes.now c.args.ts.now (items c.args.before.now) c.in-Pred.name c.in-Pred.args.items c.in-Pred.lets.items c.in-Pred.root)
    (stops_later _ _ e h k)) f)
