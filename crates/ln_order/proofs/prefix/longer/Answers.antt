use Rattle.std.proofs.Common.{◌≡◌, ◌∙◌, [], ◌∷◌, ◌++◌, map, add-one, ap, arith}
use Rattle.ln_order.specs.Orders.{firsts}
use Rattle.ln_order.specs.Fronts.{front_places}
use Rattle.ln_order.proofs.Listing.LongerLemmas.{all_of, one_more}
use Rattle.ln_order.proofs.prefix.longer.Goals as goal

pub returns : goal.returns
returns c =
    let e : c.firsts.first ≡ c.args.k = omega (arith, c.firsts-test.false, c.firsts.auto.first-end) in
    rw e at c.firsts.invariant

pub others-preserved : goal.others-preserved
others-preserved c =
    one_more front_places c.firsts.first c.args.others.now c.others.p-index _ c.p-item.result c.behind.result c.others.all
    c.push-in-others.new.self ([] ∷ firsts c.firsts.first (map front_places c.args.others.now))
    c.others-test.true c.p-item.is c.behind.ensures c.in_ok-push-2.ensures.ok c.others.invariant

pub firsts-preserved : goal.firsts-preserved
firsts-preserved c =
    let os = map front_places c.args.others.now in
    rw (add-one c.firsts.first) (c.others.invariant
    ∙ ap (λ z. [] ∷ firsts c.firsts.first os ++ z) (all_of front_places c.firsts.first c.args.others.now c.others.p-index c.others-test.false))
