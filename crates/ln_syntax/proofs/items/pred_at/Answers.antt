use Rattle.std.proofs.Common.{arith}
use Rattle.ln_lex.specs.declared.token.Kind.TheVariants.{ParR, Sign, Semi}
use Rattle.ln_syntax.proofs.Spellings.Parts.{is_within, pred_args, pred_lets, pred_expr, pred_read}
use Rattle.ln_syntax.proofs.items.pred_at.Goals as goal

pub args_at-requires-clause-there : goal.args_at-requires-clause-there
args_at-requires-clause-there c = pred_args c.requires.there.derives c.requires.no_site c.requires.no_param

pub overflow_add-args : goal.overflow_add-args
overflow_add-args c =
    let w = is_within c.args.ts.now c.in_ok-args.args.to ParR c.in_ok-args.ensures.stops in
    omega (arith, c.requires.small)

pub lets_at-requires-clause-there : goal.lets_at-requires-clause-there
lets_at-requires-clause-there c = pred_lets c.requires.there.derives c.requires.no_site c.requires.no_param c.in_ok-args.ensures.ok c.in_ok-args.ensures.stops

pub overflow_add-from : goal.overflow_add-from
overflow_add-from c =
    let w = is_within c.args.ts.now c.in_ok-lets.lets.to Sign c.in_ok-lets.ensures.stops in
    omega (arith, c.requires.small)

pub expression_end-to-requires-clause-there : goal.expression_end-to-requires-clause-there
expression_end-to-requires-clause-there c =
    pred_expr c.requires.there.derives c.requires.no_site c.requires.no_param c.in_ok-args.ensures.ok c.in_ok-args.ensures.stops
    c.in_ok-lets.ensures.ok c.in_ok-lets.ensures.stops

pub overflow_add-result : goal.overflow_add-result
overflow_add-result c =
    let w = is_within c.args.ts.now c.expression_end-to.result Semi c.expression_end-to.ensures.stops in
    omega (arith, c.requires.small)

pub returns : goal.returns
returns c =
    pred_read c.requires.there.derives c.requires.no_site c.requires.no_param c.span_of-name.ensures c.in_ok-args.ensures.ok
    c.in_ok-args.ensures.stops c.in_ok-lets.ensures.ok c.in_ok-lets.ensures.stops
    c.expression_end-to.ensures.expression c.expression_end-to.ensures.stops
