use Rattle.std.proofs.Common.{arith}
use Rattle.ln_lex.specs.declared.token.Kind.TheVariants.{Semi}
use Rattle.ln_syntax.proofs.Spellings.Parts.{is_within, param_range, param_semi, param_read}
use Rattle.ln_syntax.proofs.items.param_at.Goals as goal

pub range_at-range-requires-clause-there : goal.range_at-range-requires-clause-there
range_at-range-requires-clause-there c = param_range c.requires.there.derives c.requires.kind

pub overflow_add-result : goal.overflow_add-result
overflow_add-result c =
    let w = is_within c.args.ts.now c.range_at-range.result.to Semi (param_semi c.requires.there.derives c.requires.kind c.range_at-range.ensures) in
    omega (arith, c.requires.small)

pub returns : goal.returns
returns c = param_read c.requires.there.derives c.requires.kind c.span_of-name.ensures c.range_at-range.ensures
