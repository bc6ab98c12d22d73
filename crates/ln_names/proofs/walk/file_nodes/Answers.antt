use Rattle.std.proofs.lemmas.Result.{err_from_is_err_and}
use Rattle.ln_names.specs.Nodes.{BodyIs}
use Rattle.ln_names.proofs.Walking.{items_walked, items_stop, items_next}
use Rattle.ln_names.proofs.walk.file_nodes.Goals as goal

pub returns-in_err-item_nodes-clause-err : goal.returns-in_err-item_nodes-clause-err
returns-in_err-item_nodes-clause-err c =
    let p = err_from_is_err_and c.from_residual.result c.from_residual.ensures.1 in
    rw (p.1, p.2) (items_stop c.args.bytes.now c.args.ts.now c.args.its.now c.loop-i.i c.index-its-i.result _ c.loop-i-test.true c.index-its-i.is
    c.loop-i.invariant.0 c.in_err-item_nodes.ensures.err)

pub loop-i-preserved : goal.loop-i-preserved
loop-i-preserved c = (
  items_walked c.args.bytes.now c.args.ts.now c.args.its.now c.loop-i.i c.index-its-i.result c.loop-i-test.true c.index-its-i.is c.loop-i.invariant.0
      c.in_ok-item_nodes.ensures.fine,
  rw c.in_ok-push.ensures.ok (items_next (BodyIs c.args.bytes.now c.args.ts.now) c.args.its.now c.loop-i.bodies c.loop-i.i c.index-its-i.result _
      c.loop-i-test.true c.index-its-i.is c.loop-i.invariant.1 c.in_ok-item_nodes.ensures.nodes),
)
