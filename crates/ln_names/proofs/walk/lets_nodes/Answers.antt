use Rattle.std.proofs.lemmas.Result.{err_from_is_err_and}
use Rattle.ln_syntax.specs.Raw.{items}
use Rattle.ln_names.specs.Nodes.{AreNodes}
use Rattle.ln_names.specs.Rules.{scope}
use Rattle.ln_names.specs.Visits.{let_visits}
use Rattle.ln_names.proofs.Walking.{walked, stops, nodes_more, paired_next}
use Rattle.ln_names.proofs.walk.lets_nodes.Goals as goal

pub returns-in_err-value-clause-err : goal.returns-in_err-value-clause-err
returns-in_err-value-clause-err c =
    let p = err_from_is_err_and c.from_residual.result c.from_residual.ensures.1 in
    rw (p.1, p.2) (stops c.args.bytes.now (let_visits c.args.ts.now (items c.args.its.now) c.args.args.now) c.args.lets.now c.loop-i.i _ _
    c.loop-i-test.true c.loop-i.invariant.faults c.in_err-value.ensures.err)

pub loop-i-preserved : goal.loop-i-preserved
loop-i-preserved c = record {
  few = c.in_ok-value.ensures.few;
  count = nodes_more c.args.ts.now c.args.lets.now c.loop-i.i c.loop-i.n c.in_ok-value.value.count _ c.loop-i-test.true c.loop-i.invariant.count
      c.in_ok-value.ensures.count;
  faults = walked c.args.bytes.now (let_visits c.args.ts.now (items c.args.its.now) c.args.args.now) c.args.lets.now c.loop-i.i _
      c.loop-i-test.true c.loop-i.invariant.faults c.in_ok-value.ensures.fine;
  nodes = rw c.in_ok-push.ensures.ok
      (paired_next (λ before l v. AreNodes c.args.bytes.now c.args.ts.now (scope (items c.args.its.now) c.args.args.now before) l.value v) c.args.lets.now
      c.loop-i.values c.loop-i.i _ c.in_ok-value.value.nodes c.loop-i-test.true c.loop-i.invariant.nodes c.in_ok-value.ensures.nodes);
}
