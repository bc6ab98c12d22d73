use Rattle.std.proofs.Common.{◌≡◌, ◌∙◌, ◌++◌, map, add-one, ap, arith}
use Rattle.ln_order.specs.Orders.{firsts}
use Rattle.ln_order.specs.Places.{order_places}
use Rattle.ln_order.proofs.Listing.LongerLemmas.{all_of, one_more}
use Rattle.ln_order.proofs.orders.longer.Goals as goal

pub returns : goal.returns
returns c =
    let e : c.firsts.first ≡ c.args.k = omega (arith, c.firsts-test.false, c.firsts.auto.first-end) in
    rw e at c.firsts.invariant

pub others-preserved : goal.others-preserved
others-preserved c =
    one_more order_places c.firsts.first c.args.others.now c.others.o-index _ c.o-item.result c.behind.result c.others.all c.push.new.self _
    c.others-test.true c.o-item.is c.behind.ensures c.in_ok-push.ensures.ok c.others.invariant

pub firsts-preserved : goal.firsts-preserved
firsts-preserved c =
    let os = map order_places c.args.others.now in
    rw (add-one c.firsts.first)
    (c.others.invariant ∙ ap (λ z. firsts c.firsts.first os ++ z) (all_of order_places c.firsts.first c.args.others.now c.others.o-index c.others-test.false))
