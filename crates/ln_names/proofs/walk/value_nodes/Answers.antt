use Rattle.std.proofs.lemmas.Result.{err_from_is_err_and}
use Rattle.ln_names.specs.Machine.{machine_in}
use Rattle.ln_names.specs.Resolve.{visible}
use Rattle.ln_names.proofs.Machine.{read_next, nodes_read}
use Rattle.ln_names.proofs.Walking.{token_walked, token_stops, nodes_walked}
use Rattle.ln_names.proofs.walk.value_nodes.Goals as goal

pub returns-in_err-count-clause-err : goal.returns-in_err-count-clause-err
returns-in_err-count-clause-err c =
    let p = err_from_is_err_and c.from_residual.result c.from_residual.ensures.1 in
    rw (p.1, p.2) (token_stops c.args.bytes.now c.args.ts.now (visible c.args.seen) c.loop-k.count c.loop-k.k c.args.p.to _ _
    c.loop-k-test.true c.loop-k.invariant.faults c.in_err-count.ensures.err)

pub loop-k-preserved : goal.loop-k-preserved
loop-k-preserved c = record {
  few = c.in_ok-count.ensures.few;
  count = nodes_walked c.args.ts.now c.loop-k.count c.in_ok-count.count c.loop-k.k c.args.p.to _ c.loop-k-test.true c.loop-k.invariant.count
      c.in_ok-count.ensures.count;
  faults = token_walked c.args.bytes.now c.args.ts.now (visible c.args.seen) c.loop-k.count c.in_ok-count.count c.loop-k.k c.args.p.to _
      c.loop-k-test.true c.loop-k.invariant.faults c.in_ok-count.ensures.fine c.in_ok-count.ensures.count;
  read = read_next c.args.bytes.now c.args.ts.now (visible c.args.seen) c.loop-k.k c.args.p.to (machine_in c.loop-k.reading)
      (machine_in c.token_read.new.reading) _
      c.loop-k-test.true c.loop-k.invariant.read c.in_ok-count.ensures.step;
}

pub returns-clause-nodes : goal.returns-clause-nodes
returns-clause-nodes c =
    nodes_read c.args.bytes.now c.args.ts.now (visible c.args.seen) c.args.p c.loop-k.k (machine_in c.loop-k.reading) (machine_in c.settle.new.self)
    c.loop-k-test.false c.loop-k.invariant.read c.in_ok-settle.ensures
