use Rattle.std.proofs.Common.{◌∙◌, arith, sym, ap}
use Rattle.std.proofs.lemmas.Result.{IfOk-weaker}
use Rattle.ln_bound.specs.View.{typed}
use Rattle.ln_nest.specs.Nested.{is_power}
use Rattle.ln_nest.specs.View.{terms_in}
use Rattle.ln_nest.proofs.Forms.Halving.{parts_fit, product_fits, square_fits, taken_has, taken_of, without_has}
use Rattle.ln_nest.proofs.horner.+by_squares.Goals as goal

pub returns-then-not-has_square : goal.returns-then-not-has_square
returns-then-not-has_square t c =
    IfOk-weaker c.nest_from.result _ _ (λ x p. without_has c.args.vars.now (typed x) c.args.k c.args.b _ (terms_in c.args.terms.items)
    (λ l. ap (λ s. is_power c.args.b (terms_in s)) (sym c.as_slice.ensures.value) ∙ c.has_square.ensures.no c.if-not-has_square.true l) p) c.nest_from.ensures

pub by_squares-requires : goal.by_squares-requires
by_squares-requires t c =
    let k = taken_of c.args.k c.args.b c.args.terms.items _ _ _ c.in_ok-half.half.items c.in_ok-rest.rest.items c.as_slice.ensures.value
    c.as_slice-2.ensures.value c.as_slice-3.ensures.value (c.has_square.ensures.yes c.if-not-has_square.false) c.in_ok-half.ensures c.in_ok-rest.ensures in
    let p = parts_fit c.args.vars.now _ _ _ _ _ k c.requires.some c.requires.weight in
    (omega (arith, c.decreases, k.some), (c.requires.few, (c.requires.ordered, p.0)))

pub raised-requires : goal.raised-requires
raised-requires t c =
    let k = taken_of c.args.k c.args.b c.args.terms.items _ _ _ c.in_ok-half.half.items c.in_ok-rest.rest.items c.as_slice.ensures.value
    c.as_slice-2.ensures.value c.as_slice-3.ensures.value (c.has_square.ensures.yes c.if-not-has_square.false) c.in_ok-half.ensures c.in_ok-rest.ensures in
    square_fits c.args.vars.now _ _ _ _ _ k (typed c.in_ok-root.root) _ c.requires.some c.requires.weight c.in_ok-root.ensures

pub nest_from-requires-2-clause-some : goal.nest_from-requires-2-clause-some
nest_from-requires-2-clause-some t c =
    let k = taken_of c.args.k c.args.b c.args.terms.items _ _ _ c.in_ok-half.half.items c.in_ok-rest.rest.items c.as_slice.ensures.value
    c.as_slice-2.ensures.value c.as_slice-3.ensures.value (c.has_square.ensures.yes c.if-not-has_square.false) c.in_ok-half.ensures c.in_ok-rest.ensures in
    (parts_fit c.args.vars.now _ _ _ _ _ k c.requires.some c.requires.weight).2.0

pub nest_from-requires-2-clause-weight : goal.nest_from-requires-2-clause-weight
nest_from-requires-2-clause-weight t c =
    let k = taken_of c.args.k c.args.b c.args.terms.items _ _ _ c.in_ok-half.half.items c.in_ok-rest.rest.items c.as_slice.ensures.value
    c.as_slice-2.ensures.value c.as_slice-3.ensures.value (c.has_square.ensures.yes c.if-not-has_square.false) c.in_ok-half.ensures c.in_ok-rest.ensures in
    (parts_fit c.args.vars.now _ _ _ _ _ k c.requires.some c.requires.weight).2.1

pub times-requires : goal.times-requires
times-requires t c =
    let k = taken_of c.args.k c.args.b c.args.terms.items _ _ _ c.in_ok-half.half.items c.in_ok-rest.rest.items c.as_slice.ensures.value
    c.as_slice-2.ensures.value c.as_slice-3.ensures.value (c.has_square.ensures.yes c.if-not-has_square.false) c.in_ok-half.ensures c.in_ok-rest.ensures in
    product_fits c.args.vars.now _ _ _ _ _ k (typed c.in_ok-root.root) (typed c.in_ok-square.square) (typed c.in_ok-t.t) _ _ c.requires.weight
    c.in_ok-root.ensures c.in_ok-t.ensures c.in_ok-square.ensures

pub returns : goal.returns
returns t c =
    let k = taken_of c.args.k c.args.b c.args.terms.items _ _ _ c.in_ok-half.half.items c.in_ok-rest.rest.items c.as_slice.ensures.value
    c.as_slice-2.ensures.value c.as_slice-3.ensures.value (c.has_square.ensures.yes c.if-not-has_square.false) c.in_ok-half.ensures c.in_ok-rest.ensures in
    IfOk-weaker c.times.result _ _ (λ x p. taken_has c.args.vars.now c.args.k c.args.b _ _ _ (typed c.in_ok-root.root) (typed c.in_ok-square.square)
    (typed c.in_ok-t.t) (typed x) k c.in_ok-root.ensures c.in_ok-t.ensures c.in_ok-square.ensures p) c.times.ensures
