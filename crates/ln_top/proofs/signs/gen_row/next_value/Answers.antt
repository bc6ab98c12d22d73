use Rattle.std.proofs.Common.{ℕ, ap, rules, to_z-of_z, w64}
use Rattle.rand_pcg.specs.Lcg.{Lcg}
use mir.Val.{SFits}
use Rattle.ln_top.specs.Signs.GenRow.{variable_by}
use Rattle.ln_top.proofs.SignsLemmas.MadeRangeLemmas.{ends_in_order, low_above}
use Rattle.ln_top.proofs.signs.gen_row.next_value.Goals as goal

pub between-requires-clause-order : goal.between-requires-clause-order
between-requires-clause-order c =
    let lo : SFits w64 c.args.i.now.lo = search rules in
    let hi : SFits w64 c.args.i.now.hi = search rules in
    let low : SFits w64 c.ends-lo.result.0 = search rules in
    let high : SFits w64 c.ends-lo.result.1 = search rules in
    rw (
      to_z-of_z low,
      to_z-of_z high,
      c.ends-lo.ensures.low,
      c.ends-lo.ensures.high,
      to_z-of_z lo,
      to_z-of_z hi,
    ) (ends_in_order c.args.n c.args.i.now c.requires)

pub between-requires-clause-size : goal.between-requires-clause-size
between-requires-clause-size c =
    let lo : SFits w64 c.args.i.now.lo = search rules in
    let hi : SFits w64 c.args.i.now.hi = search rules in
    let low : SFits w64 c.ends-lo.result.0 = search rules in
    rw (to_z-of_z low, c.ends-lo.ensures.low, to_z-of_z lo, to_z-of_z hi) (low_above c.args.n c.args.i.now c.requires)

pub returns-clause-value : goal.returns-clause-value
returns-clause-value c =
    let lo : SFits w64 c.args.i.now.lo = search rules in
    let hi : SFits w64 c.args.i.now.hi = search rules in
    let low : SFits w64 c.ends-lo.result.0 = search rules in
    let high : SFits w64 c.ends-lo.result.1 = search rules in
    let value : SFits w64 c.between.result = search rules in
    rw (
      to_z-of_z value,
      c.between.ensures,
      to_z-of_z low,
      to_z-of_z high,
      c.ends-lo.ensures.low,
      c.ends-lo.ensures.high,
      to_z-of_z lo,
      to_z-of_z hi,
    )
    (ap (variable_by c.args.n c.args.i.now) (ap (λ (p : ℕ × Lcg). p.0) c.next_word-word.ensures))
