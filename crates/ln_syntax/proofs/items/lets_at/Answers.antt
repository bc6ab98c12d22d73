use Rattle.std.proofs.Common.{arith}
use Rattle.ln_lex.specs.declared.token.Kind.TheVariants.{Let, Semi}
use Rattle.ln_syntax.proofs.Recognising.Ahead.{no_semi}
use Rattle.ln_syntax.proofs.Spellings.Parts.{is_within, let_more, lets_begin}
use Rattle.ln_syntax.proofs.items.lets_at.Goals as goal

pub lets-init : goal.lets-init
lets-init c = rw c.new-lets.ensures.items (lets_begin c.requires.there)

pub overflow_add-place : goal.overflow_add-place
overflow_add-place c =
    let w = is_within c.args.ts.now c.lets.place Let (c.is.ensures.0 c.lets-test.true) in
    omega (arith, c.requires.small)

pub overflow_add-from : goal.overflow_add-from
overflow_add-from c =
    let w = is_within c.args.ts.now c.lets.place Let (c.is.ensures.0 c.lets-test.true) in
    omega (arith, c.requires.small)

pub overflow_add-place-in-lets : goal.overflow_add-place-in-lets
overflow_add-place-in-lets c =
    let w = is_within c.args.ts.now c.expression_end-to.result Semi c.expression_end-to.ensures.stops in
    omega (arith, c.requires.small)

pub lets-smaller : goal.lets-smaller
lets-smaller c =
    let w = is_within c.args.ts.now c.lets.place Let (c.is.ensures.0 c.lets-test.true) in
    let r = (no_semi c.expression_end-to.ensures.expression.1).rises in
    omega arith

pub lets-preserved : goal.lets-preserved
lets-preserved c =
    let h = c.lets.invariant in
    rw c.in_ok-push.ensures.items (let_more h.done h.rest.derives h.rest.stops
    (c.is.ensures.0 c.lets-test.true) c.span_of-name.ensures c.expression_end-to.ensures.expression c.expression_end-to.ensures.stops)
