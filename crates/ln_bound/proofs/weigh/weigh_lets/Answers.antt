use Rattle.std.proofs.Common.{◌≡◌, ◌+◌, ◌∷◌, map, drop, ap, ◌∙◌, refl, sym}
use Rattle.std.proofs.lemmas.List.{drop_more}
use Rattle.std.proofs.lemmas.Result.{err_from_is_err_and}
use Rattle.ln_tree.specs.Formula.{formula}
use Rattle.ln_bound.proofs.Measures.Measuring.{lets_more, lets_stop}
use Rattle.ln_bound.proofs.weigh.weigh_lets.Goals as goal

pub returns-in_err-weigh_next-clause-err : goal.returns-in_err-weigh_next-clause-err
returns-in_err-weigh_next-clause-err c =
    let here : drop c.each.e-index c.args.lets.now ≡ c.e-item.result ∷ drop (c.each.e-index + 1) c.args.lets.now =
    drop_more c.args.lets.now c.each.e-index c.e-item.result c.each-test.true ∙ ap (λ z. z ∷ drop (c.each.e-index + 1) c.args.lets.now) (sym c.e-item.is) in
    let formulas : map formula (drop c.each.e-index c.args.lets.now)
    ≡ formula c.e-item.result ∷ map formula (drop (c.each.e-index + 1) c.args.lets.now) = rw here refl in
    let inv = rw formulas at c.each.invariant in
    let p = err_from_is_err_and c.from_residual.result c.from_residual.ensures.1 in
    rw (p.1, p.2) (lets_stop _ _ _ _ _ _ _ inv c.in_err-weigh_next.ensures.err)

pub each-preserved : goal.each-preserved
each-preserved c =
    let here : drop c.each.e-index c.args.lets.now ≡ c.e-item.result ∷ drop (c.each.e-index + 1) c.args.lets.now =
    drop_more c.args.lets.now c.each.e-index c.e-item.result c.each-test.true ∙ ap (λ z. z ∷ drop (c.each.e-index + 1) c.args.lets.now) (sym c.e-item.is) in
    let formulas : map formula (drop c.each.e-index c.args.lets.now)
    ≡ formula c.e-item.result ∷ map formula (drop (c.each.e-index + 1) c.args.lets.now) = rw here refl in
    let inv = rw formulas at c.each.invariant in
    lets_more _ _ _ _ _ _ _ _ inv c.in_ok-weigh_next.ensures.light c.in_ok-weigh_next.ensures.nodes c.in_ok-weigh_next.ensures.ranges
    c.in_ok-weigh_next.ensures.sizes
