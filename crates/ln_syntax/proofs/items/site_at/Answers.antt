use Rattle.std.proofs.Common.{arith}
use Rattle.ln_lex.specs.declared.token.Kind.TheVariants.{BraceR}
use Rattle.ln_syntax.proofs.Spellings.Parts.{is_within, site_coords, site_read}
use Rattle.ln_syntax.proofs.items.site_at.Goals as goal

pub coords_at-requires-clause-there : goal.coords_at-requires-clause-there
coords_at-requires-clause-there c = site_coords c.requires.there.derives c.requires.kind

pub overflow_add-result : goal.overflow_add-result
overflow_add-result c =
    let w = is_within c.args.ts.now c.in_ok-coords.coords.to BraceR c.in_ok-coords.ensures.stops in
    omega (arith, c.requires.small)

pub returns : goal.returns
returns c = site_read c.requires.there.derives c.requires.kind c.span_of-name.ensures c.in_ok-coords.ensures.ok c.in_ok-coords.ensures.stops
