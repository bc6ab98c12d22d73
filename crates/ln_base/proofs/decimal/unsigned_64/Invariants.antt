use Rattle.std.proofs.Common.{◌≡◌, ◌-◌, ◌^◌, min, take}
use Rattle.ln_base.specs.Decimal.{decimal_value}
use Rattle.ln_base.proofs.decimal.unsigned_64.Given as goal

abbrev pub invariant-loop-digit : goal.invariant-loop-digit
invariant-loop-digit l = l.n ≡ min (decimal_value (take l.digit-index l.digits)) (2 ^ 64 - 1)
