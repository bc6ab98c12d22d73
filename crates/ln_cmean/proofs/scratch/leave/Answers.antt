use Rattle.std.proofs.Common.{◌∙◌, ◌≤◌, ◌-◌, ap, length, take, arith, length-take}
use Rattle.std.proofs.lemmas.List.{take-take}
use Rattle.ln_cmean.proofs.scratch.leave.Goals as goal

pub slots-smaller : goal.slots-smaller
slots-smaller c =
    let xs = c.slots.s.slots.items in
    omega (arith, c.slots-test.true, c.len.ensures, c.slots.s.slots.ok.0, ap (λ ys. length ys) c.close.ensures.slots, length-take (length xs - 1) xs)

pub slots-preserved : goal.slots-preserved
slots-preserved c =
    let xs = c.slots.s.slots.items in
    let l : c.args.slots ≤ length xs - 1 = omega (arith, c.slots-test.true, c.len.ensures, c.slots.s.slots.ok.0) in
    record {
      slots = ap (λ ys. take c.args.slots ys) c.close.ensures.slots ∙ take-take c.args.slots (length xs - 1) xs l ∙ c.slots.invariant.slots;
      base = c.close.ensures.base ∙ c.slots.invariant.base;
      capacity = omega (arith, c.slots.invariant.capacity, c.close.ensures.capacity);
    }
