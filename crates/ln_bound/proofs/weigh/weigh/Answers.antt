use Rattle.std.proofs.Common.{◌<◌, length, map, ap}
use Rattle.std.proofs.lemmas.Result.{err_from_is_err_and}
use Rattle.ln_tree.specs.Formula.{formula}
use Rattle.ln_bound.specs.Loads.{measure_of, measured, node_measures}
use Rattle.ln_bound.specs.Measures.{range_in, seen, size_in}
use Rattle.ln_bound.proofs.Measures.Measuring.{ordered, some_behind, some_measured, some_seen}
use Rattle.ln_bound.proofs.Measures.Nodes.{lets_stop_pred, pred_light, pred_nodes, pred_stops}
use Rattle.ln_bound.proofs.weigh.weigh.Goals as goal

pub weigh_lets-requires-clause-ordered : goal.weigh_lets-requires-clause-ordered
weigh_lets-requires-clause-ordered c =
    ordered c.args.p.now.shape.sites c.args.p.now.shape.vars c.as_slice-vars.result.now c.args.p.now.shape.kept c.as_slice-vars.ensures

pub weigh_in-requires : goal.weigh_in-requires
weigh_in-requires c = ordered c.args.p.now.shape.sites c.args.p.now.shape.vars c.as_slice-vars.result.now c.args.p.now.shape.kept c.as_slice-vars.ensures

pub returns-in_err-weigh_in-clause-err : goal.returns-in_err-weigh_in-clause-err
returns-in_err-weigh_in-clause-err c =
    let v = c.as_slice-vars.result.now in
    let s = c.as_slice-2.result.now in
    let p = err_from_is_err_and c.from_residual-in_err-weigh_in.result c.from_residual-in_err-weigh_in.ensures.1 in
    let ranges = rw (← c.as_slice-2.ensures) at c.in_ok-lets.ensures.ranges in
    let sizes = rw (← c.as_slice-2.ensures) at c.in_ok-lets.ensures.sizes in
    rw (p.1, p.2)
    (pred_stops c.args.p.now.shape.vars v (map formula c.args.p.now.lets) (map formula c.as_slice.result.now) (formula c.args.p.now.root) (map range_in s)
    (map size_in s) _ c.as_slice-vars.ensures (ap (map formula) c.as_slice.ensures) ranges sizes c.in_ok-lets.ensures.light c.in_err-weigh_in.ensures)

pub returns-in_err-lets-clause-err : goal.returns-in_err-lets-clause-err
returns-in_err-lets-clause-err c =
    let p = err_from_is_err_and c.from_residual.result c.from_residual.ensures.1 in
    rw (p.1, p.2) (lets_stop_pred c.args.p.now.shape.vars c.as_slice-vars.result.now (map formula c.args.p.now.lets) (map formula c.as_slice.result.now)
    (formula c.args.p.now.root) _ c.as_slice-vars.ensures (ap (map formula) c.as_slice.ensures) c.in_err-lets.ensures.err)

pub returns-clause-ok : goal.returns-clause-ok
returns-clause-ok c =
    let s = c.as_slice-2.result.now in
    let ranges = rw (← c.as_slice-2.ensures) at c.in_ok-lets.ensures.ranges in
    let sizes = rw (← c.as_slice-2.ensures) at c.in_ok-lets.ensures.sizes in
    pred_nodes c.args.p.now.shape.vars c.as_slice-vars.result.now (map formula c.args.p.now.lets) (map formula c.as_slice.result.now)
    (formula c.args.p.now.root) (map range_in s) (map size_in s) c.weigh_lets.new.all c.weigh_in.new.all c.as_slice-vars.ensures
    (ap (map formula) c.as_slice.ensures) ranges sizes c.in_ok-lets.ensures.nodes c.in_ok-weigh_in.ensures.nodes

pub returns-clause-light : goal.returns-clause-light
returns-clause-light c =
    let s = c.as_slice-2.result.now in
    let ranges = rw (← c.as_slice-2.ensures) at c.in_ok-lets.ensures.ranges in
    let sizes = rw (← c.as_slice-2.ensures) at c.in_ok-lets.ensures.sizes in
    pred_light c.args.p.now.shape.vars c.as_slice-vars.result.now (map formula c.args.p.now.lets)
    (map formula c.as_slice.result.now) (formula c.args.p.now.root) (map range_in s) (map size_in s) c.as_slice-vars.ensures
    (ap (map formula) c.as_slice.ensures) ranges sizes c.in_ok-lets.ensures.light c.in_ok-weigh_in.ensures.light

pub returns-clause-some : goal.returns-clause-some
returns-clause-some c =
    let vars = c.as_slice-vars.result.now in
    let lets = c.as_slice-2.result.now in
    let root = formula c.args.p.now.root in
    let by = measure_of vars (map range_in lets) (map size_in lets) in
    rw c.in_ok-weigh_in.ensures.nodes
    (some_behind (map seen c.weigh_lets.new.all) (node_measures (measured vars (map range_in lets) (map size_in lets) root)) (some_measured by root))

pub invariant_of-result : goal.invariant_of-result
invariant_of-result c =
    let vars = c.as_slice-vars.result.now in
    let lets = c.as_slice-2.result.now in
    let root = formula c.args.p.now.root in
    let by = measure_of vars (map range_in lets) (map size_in lets) in
    let h : 0 < length (map seen c.weigh_in.new.all) = rw c.in_ok-weigh_in.ensures.nodes
    (some_behind (map seen c.weigh_lets.new.all) (node_measures (measured vars (map range_in lets) (map size_in lets) root)) (some_measured by root)) in
    some_seen c.weigh_in.new.all h
