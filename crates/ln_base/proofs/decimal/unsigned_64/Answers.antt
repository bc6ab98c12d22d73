use Rattle.std.proofs.Common.{arith}
use Rattle.ln_base.proofs.DecimalLemmas.{value_more}
use Rattle.ln_base.proofs.decimal.unsigned_64.Goals as goal

pub loop-digit-preserved : goal.loop-digit-preserved
loop-digit-preserved c =
    rw (c.saturating_add-n.ensures, c.saturating_mul.ensures, c.from.ensures, c.digit_value.ensures) (value_more _ _ _ _ (omega arith) c.loop-digit.invariant)
