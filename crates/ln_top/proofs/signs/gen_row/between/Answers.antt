use Rattle.std.proofs.Common.{rules, to_z-of_z, refl}
use Rattle.std.specs.Int.{w128}
use mir.Val.{SFits}
use Rattle.ln_top.proofs.SignsLemmas.MadeRangeLemmas.{width_fits, sum_fits, value_fits}
use Rattle.ln_top.proofs.signs.gen_row.between.Goals as goal

pub overflow_add-offset : goal.overflow_add-offset
overflow_add-offset c =
    let width = rw (to_z-of_z c.ranges.hi, to_z-of_z c.ranges.lo) at c.abs_diff.ensures in
    record { fits = width_fits c.args.lo c.args.hi c.abs_diff.result c.requires.size c.requires.order c.ranges.hi width }

pub overflow_add-result : goal.overflow_add-result
overflow_add-result c =
    let width = rw (to_z-of_z c.ranges.hi, to_z-of_z c.ranges.lo) at c.abs_diff.ensures in
    let fits = width_fits c.args.lo c.args.hi c.abs_diff.result c.requires.size c.requires.order c.ranges.hi width in
    let low : SFits w128 c.from.result = search rules in
    let offset : SFits w128 c.from-2.result = search rules in
    let from = rw (to_z-of_z c.ranges.lo) at c.from.ensures in
    rw (to_z-of_z low, to_z-of_z offset, from, c.from-2.ensures) (sum_fits c.args.lo c.args.word c.abs_diff.result c.ranges.lo fits)

pub overflow_cast-result : goal.overflow_cast-result
overflow_cast-result c =
    let width = rw (to_z-of_z c.ranges.hi, to_z-of_z c.ranges.lo) at c.abs_diff.ensures in
    let low : SFits w128 c.from.result = search rules in
    let offset : SFits w128 c.from-2.result = search rules in
    let from = rw (to_z-of_z c.ranges.lo) at c.from.ensures in
    rw (to_z-of_z (overflow_add-result c), to_z-of_z low, to_z-of_z offset, from, c.from-2.ensures)
    (value_fits c.args.lo c.args.hi c.args.word c.abs_diff.result c.requires.order c.ranges.lo c.ranges.hi width)

pub returns : goal.returns
returns c =
    let width = rw (to_z-of_z c.ranges.hi, to_z-of_z c.ranges.lo) at c.abs_diff.ensures in
    let low : SFits w128 c.from.result = search rules in
    let offset : SFits w128 c.from-2.result = search rules in
    let from = rw (to_z-of_z c.ranges.lo) at c.from.ensures in
    rw (
      to_z-of_z (overflow_cast-result c),
      to_z-of_z (overflow_add-result c),
      to_z-of_z low,
      to_z-of_z offset,
      from,
      c.from-2.ensures,
      width,
    ) refl
