use Rattle.std.proofs.Common.{◌≡◌, drop}
use Rattle.std.specs.Prelude.{◌*ℤ◌}
use Rattle.ln_algebra.specs.Product.{multiplied_numbers}
use Rattle.ln_due.specs.Due.{sign_number}
use Rattle.ln_factor.specs.Factors.{numbers_of}
use Rattle.ln_factor.proofs.product.product_of.Given as goal

abbrev pub invariant-each : goal.invariant-each
invariant-each l = sign_number l.sign *ℤ multiplied_numbers (numbers_of (drop l.v-index l.verdicts)) ≡ multiplied_numbers
    (numbers_of l.verdicts)
