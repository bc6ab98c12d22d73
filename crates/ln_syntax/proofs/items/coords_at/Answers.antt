use Rattle.std.proofs.Common.{arith}
use Rattle.ln_lex.specs.declared.token.Kind.TheVariants.{Name, Semi}
use Rattle.ln_syntax.proofs.Spellings.Parts.{is_within, range_rises, coords_begin, coord_range, coord_semi, coord_more}
use Rattle.ln_syntax.proofs.items.coords_at.Goals as goal

pub coords-init : goal.coords-init
coords-init c = rw c.new-coords.ensures.items (coords_begin c.requires.there)

pub overflow_add-place : goal.overflow_add-place
overflow_add-place c =
    let w = is_within c.args.ts.now c.coords.place Name (c.is.ensures.0 c.coords-test.true) in
    omega (arith, c.requires.small)

pub range_at-range-requires-clause-there : goal.range_at-range-requires-clause-there
range_at-range-requires-clause-there c = coord_range c.coords.invariant.rest.derives c.coords.invariant.rest.stops (c.is.ensures.0 c.coords-test.true)

pub overflow_add-place-in-coords : goal.overflow_add-place-in-coords
overflow_add-place-in-coords c =
    let s = coord_semi c.coords.invariant.rest.derives c.coords.invariant.rest.stops (c.is.ensures.0 c.coords-test.true) c.range_at-range.ensures in
    let w = is_within c.args.ts.now c.range_at-range.result.to Semi s in
    omega (arith, c.requires.small)

pub coords-smaller : goal.coords-smaller
coords-smaller c =
    let w = is_within c.args.ts.now c.coords.place Name (c.is.ensures.0 c.coords-test.true) in
    let r = range_rises c.range_at-range.ensures in
    omega arith

pub coords-preserved : goal.coords-preserved
coords-preserved c =
    let h = c.coords.invariant in
    rw c.in_ok-push.ensures.items (coord_more h.done h.rest.derives h.rest.stops (c.is.ensures.0 c.coords-test.true)
    c.span_of-name.ensures c.range_at-range.ensures)
