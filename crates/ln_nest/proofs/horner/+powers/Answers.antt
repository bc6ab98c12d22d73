use Rattle.std.proofs.Common.{◌+◌, ◌-◌, arith, ◌∙◌, ap, length, FitsSigned, rules}
use mir.Syntax.{w128}
use Rattle.std.proofs.lemmas.Int.{to_z-of_z}
use Rattle.std.proofs.lemmas.Result.{IfOk-weaker}
use Rattle.ln_bound.specs.Light.{most}
use Rattle.ln_bound.specs.View.{typed}
use Rattle.ln_nest.specs.Nested.{power_at_once, nested, total}
use Rattle.ln_nest.specs.View.{scale, terms_in, abs_total}
use Rattle.ln_nest.proofs.Forms.Steps.{scale_some, free_weight, divided_weight, free_some, divided_some, power_fits, scaled_fits, sum_fits_most, ends_free}
use Rattle.ln_nest.proofs.Forms.Steps.{code_power, ends_product, ends_sum, is_empty, is_some, at_count, by_powers, constant_has, total_fits}
use Rattle.ln_nest.proofs.Forms.Bounds.{few_weight}
use Rattle.ln_nest.proofs.horner.+powers.Goals as goal

pub by_powers-nest_from-requires-then-is_empty : goal.by_powers-nest_from-requires-then-is_empty
by_powers-nest_from-requires-then-is_empty t c =
    let f = terms_in c.args.terms.items in
    let o = code_power c.args.v c.power_at_once-e.result f (c.power_at_once-e.ensures ∙ ap (λ s. power_at_once c.args.v
    (terms_in s)) c.as_slice.ensures.value) in
    let w = free_weight c.args.vars.now c.args.v c.power_at_once-e.result f o most c.in_ok-with.without.items c.in_ok-with.ensures.without c.requires.weight in
    let z = free_some c.args.vars.now c.args.v c.power_at_once-e.result f o c.in_ok-with.without.items c.in_ok-with.ensures.without c.requires.some in
    (omega arith, (omega (arith, c.requires.variable), (c.requires.few, (c.requires.ordered, (z, w)))))

pub by_powers-nest_from-requires-2 : goal.by_powers-nest_from-requires-2
by_powers-nest_from-requires-2 t c =
    let f = terms_in c.args.terms.items in
    let o = code_power c.args.v c.power_at_once-e.result f (c.power_at_once-e.ensures ∙ ap (λ s. power_at_once c.args.v
    (terms_in s)) c.as_slice.ensures.value) in
    let w = free_weight c.args.vars.now c.args.v c.power_at_once-e.result f o most c.in_ok-with.without.items c.in_ok-with.ensures.without c.requires.weight in
    let z = free_some c.args.vars.now c.args.v c.power_at_once-e.result f o c.in_ok-with.without.items c.in_ok-with.ensures.without c.requires.some in
    (omega arith, (omega (arith, c.requires.variable), (c.requires.few, (c.requires.ordered, (z, w)))))

pub by_powers-by_powers-requires : goal.by_powers-by_powers-requires
by_powers-by_powers-requires t c =
    let f = terms_in c.args.terms.items in
    let o = code_power c.args.v c.power_at_once-e.result f (c.power_at_once-e.ensures ∙ ap (λ s. power_at_once c.args.v
    (terms_in s)) c.as_slice.ensures.value) in
    let w = divided_weight c.args.vars.now c.args.v c.power_at_once-e.result f o most c.in_ok-with.with.items c.in_ok-with.ensures.with c.requires.weight in
    let z = divided_some c.args.vars.now c.args.v c.power_at_once-e.result f o c.in_ok-with.with.items c.in_ok-with.ensures.with c.requires.some in
    (omega arith, (c.requires.variable, (c.requires.few, (c.requires.ordered, (z, w)))))

pub by_powers-scaled-requires : goal.by_powers-scaled-requires
by_powers-scaled-requires t c =
    let f = terms_in c.args.terms.items in
    let o = code_power c.args.v c.power_at_once-e.result f (c.power_at_once-e.ensures ∙ ap (λ s. power_at_once c.args.v
    (terms_in s)) c.as_slice.ensures.value) in
    let n = is_some c.in_ok-with.with.len c.in_ok-with.with.items c.if-is_empty.ensures (omega (arith, c.in_ok-with.with.ok.0)) in
    let p = power_fits c.args.vars.now c.args.v c.power_at_once-e.result f o c.in_ok-with.with.items n c.in_ok-with.ensures.with
    c.requires.some c.requires.weight in
    let q = scaled_fits c.args.vars.now c.args.v c.power_at_once-e.result f o c.in_ok-with.with.items (typed c.in_ok-h.h) _ c.in_ok-with.ensures.with
    c.in_ok-h.ensures c.requires.weight in
    record {
      variable = c.requires.variable;
      few = c.requires.few;
      ordered = c.requires.ordered;
      power = (o.0, o.1);
      small = p;
      product = q;
    }

pub by_powers-two-requires : goal.by_powers-two-requires
by_powers-two-requires t c =
    let f = terms_in c.args.terms.items in
    let inner = nested c.args.d (length c.args.vars.now - (c.args.v + 1)) (c.args.v + 1) in
    let o = code_power c.args.v c.power_at_once-e.result f (c.power_at_once-e.ensures ∙ ap (λ s. power_at_once c.args.v
    (terms_in s)) c.as_slice.ensures.value) in
    sum_fits_most c.args.vars.now inner c.args.v (c.args.b - 1) c.power_at_once-e.result f o c.in_ok-with.with.items c.in_ok-with.without.items
    c.in_ok-with.ensures.with c.in_ok-with.ensures.without (typed c.in_ok-h.h) (typed c.in_ok-product.product) (typed c.in_ok-i.i) _ _
    c.in_ok-h.ensures c.in_ok-product.ensures c.in_ok-i.ensures c.requires.weight

pub nest_from-constant-requires : goal.nest_from-constant-requires
nest_from-constant-requires t c =
    let m = few_weight (scale c.args.vars.now) (scale_some c.args.vars.now) (terms_in c.args.terms.items) in
    let e = ap (λ s. abs_total (terms_in s)) c.as_slice.ensures.value in
    omega (arith, m, e, c.requires.weight)

pub nest_from-number-requires : goal.nest_from-number-requires
nest_from-number-requires t c =
    let f : FitsSigned w128 c.constant.result = search rules in
    total_fits c.args.vars.now (terms_in c.args.terms.items) _
    (to_z-of_z w128 c.constant.result f ∙ c.constant.ensures ∙ ap (λ s. total (terms_in s)) c.as_slice.ensures.value) c.requires.weight

pub nest_from-returns-then-v-vars : goal.nest_from-returns-then-v-vars
nest_from-returns-then-v-vars t c =
    let f : FitsSigned w128 c.constant.result = search rules in
    constant_has c.args.vars.now c.args.d (length c.args.vars.now) c.args.v (terms_in c.args.terms.items) (typed c.number.result) _ (omega arith)
    (to_z-of_z w128 c.constant.result f ∙ c.constant.ensures ∙ ap (λ s. total (terms_in s)) c.as_slice.ensures.value) c.number.ensures

pub nest_from-returns : goal.nest_from-returns
nest_from-returns t c = IfOk-weaker c.by_powers.result _ _ (λ x p. by_powers c.args.vars.now (typed x) c.args.d (length c.args.vars.now) c.args.v _
    (terms_in c.args.terms.items) (omega (arith, c.requires.variable, c.if-v-vars.false)) p) c.by_powers.ensures

pub by_powers-returns-then-is_empty : goal.by_powers-returns-then-is_empty
by_powers-returns-then-is_empty t c =
    let f = terms_in c.args.terms.items in
    let inner = nested c.args.d (length c.args.vars.now - (c.args.v + 1)) (c.args.v + 1) in
    let q = c.power_at_once-e.ensures ∙ ap (λ s. power_at_once c.args.v (terms_in s)) c.as_slice.ensures.value in
    IfOk-weaker c.nest_from-then-is_empty.result _ _ (λ x p. at_count c.args.vars.now inner c.args.v (c.args.b - 1) c.power_at_once-e.result c.args.b _ f
    (typed x) (omega arith) q
    (ends_free c.args.vars.now inner c.args.v (c.args.b - 1) c.power_at_once-e.result f
    (code_power c.args.v c.power_at_once-e.result f q) c.in_ok-with.with.items
    c.in_ok-with.without.items c.in_ok-with.ensures.with c.in_ok-with.ensures.without (typed x)
    (is_empty c.in_ok-with.with.len c.in_ok-with.with.items c.if-is_empty.ensures (omega (arith, c.in_ok-with.with.ok.0))) p)) c.nest_from-then-is_empty.ensures

pub by_powers-returns-then-is_empty-2 : goal.by_powers-returns-then-is_empty-2
by_powers-returns-then-is_empty-2 t c =
    let f = terms_in c.args.terms.items in
    let inner = nested c.args.d (length c.args.vars.now - (c.args.v + 1)) (c.args.v + 1) in
    let q = c.power_at_once-e.ensures ∙ ap (λ s. power_at_once c.args.v (terms_in s)) c.as_slice.ensures.value in
    at_count c.args.vars.now inner c.args.v (c.args.b - 1) c.power_at_once-e.result c.args.b _ f (typed c.in_ok-product.product) (omega arith) q
    (ends_product c.args.vars.now inner c.args.v (c.args.b - 1) c.power_at_once-e.result f
    (code_power c.args.v c.power_at_once-e.result f q) c.in_ok-with.with.items
    c.in_ok-with.without.items c.in_ok-with.ensures.with c.in_ok-with.ensures.without (typed c.in_ok-h.h) (typed c.in_ok-product.product)
    (is_some c.in_ok-with.with.len c.in_ok-with.with.items c.if-is_empty.ensures (omega (arith, c.in_ok-with.with.ok.0)))
    (is_empty c.in_ok-with.without.len c.in_ok-with.without.items c.if-is_empty-2.ensures (omega (arith, c.in_ok-with.without.ok.0)))
    c.in_ok-h.ensures c.in_ok-product.ensures)

pub by_powers-returns : goal.by_powers-returns
by_powers-returns t c =
    let f = terms_in c.args.terms.items in
    let inner = nested c.args.d (length c.args.vars.now - (c.args.v + 1)) (c.args.v + 1) in
    let q = c.power_at_once-e.ensures ∙ ap (λ s. power_at_once c.args.v (terms_in s)) c.as_slice.ensures.value in
    IfOk-weaker c.two.result _ _ (λ x p. at_count c.args.vars.now inner c.args.v (c.args.b - 1) c.power_at_once-e.result c.args.b _ f (typed x) (omega arith) q
    (ends_sum c.args.vars.now inner c.args.v (c.args.b - 1) c.power_at_once-e.result f
    (code_power c.args.v c.power_at_once-e.result f q) c.in_ok-with.with.items
    c.in_ok-with.without.items c.in_ok-with.ensures.with c.in_ok-with.ensures.without (typed c.in_ok-h.h) (typed c.in_ok-i.i)
    (typed c.in_ok-product.product) (typed x)
    (is_some c.in_ok-with.with.len c.in_ok-with.with.items c.if-is_empty.ensures (omega (arith, c.in_ok-with.with.ok.0)))
    (is_some c.in_ok-with.without.len c.in_ok-with.without.items c.if-is_empty-2.ensures (omega (arith, c.in_ok-with.without.ok.0)))
    c.in_ok-h.ensures c.in_ok-product.ensures c.in_ok-i.ensures p)) c.two.ensures
