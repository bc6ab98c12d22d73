use Rattle.std.proofs.Common.{arith, sym, ◌∙◌}
use Rattle.ln_rows.proofs.Records.PlainLemmas.{read_none, read_fits, read_small, read_more, read_digits}
use Rattle.ln_rows.proofs.plain.digits.Goals as goal

pub digits-init : goal.digits-init
digits-init c = read_none _ _ (omega (arith, c.min-most.ensures)) (omega (arith, c.min-most.ensures))

pub overflow_mul-n : goal.overflow_mul-n
overflow_mul-n c = let small = read_fits _ _ _ _ c.digits.invariant c.digits-test.true in omega (arith, small)

pub overflow_add-n : goal.overflow_add-n
overflow_add-n c =
    let small = read_fits _ _ _ _ c.digits.invariant c.digits-test.true in
    let digit = c.if-is_ascii_digit.ensures.bound in
    omega (arith, small, digit, c.from.ensures)

pub digits-preserved : goal.digits-preserved
digits-preserved c = read_more _ _ _ _ _ c.digits.invariant c.digits-test.true (sym c.is_ascii_digit.ensures.value ∙ c.if-is_ascii_digit.true) c.from.ensures

pub returns-clause-digits : goal.returns-clause-digits
returns-clause-digits c = read_digits _ _ _ _ c.digits.invariant

pub returns-clause-small : goal.returns-clause-small
returns-clause-small c = read_small _ _ _ _ c.digits.invariant
