-- What the machine does after a filter.
use Rattle.std.proofs.Common.{◌≡◌, ℕ, ◌<◌, ◌≤◌, true, false, ltb, List, refl, arith, unsigned_abs, ℤ}
use Rattle.std.specs.Prelude.{Option, Some}
use Rattle.std.proofs.lemmas.Bool.Decides.{nat_tests}
use Rattle.ln_code.specs.declared.verdict.Verdict.{Verdict}
use Rattle.ln_code.specs.declared.verdict.By.TheVariants.{Filter}
use Rattle.ln_code.specs.Exact.{Held}
use Rattle.ln_code.specs.Part.{Code, FilterCode, filter_value}
use Rattle.ln_code.specs.Verdict.{along, decides, sign_of, through}

-- the filter is entered first
pub through-decides : (zs : List ℤ) (c : FilterCode) (left : Held) (blocks : List Code) (list : List ℕ) → filter_value zs c ≡ Some left
    → through (Some c) zs blocks list ≡ decides left (along zs blocks list 0 0 1)
through-decides zs c left blocks list h = rw h refl

-- above its error what it leaves decides
pub decides-above : (left : Held) (rest : Option Verdict) → left.error < unsigned_abs left.number
    → decides left rest ≡ Some (record { sign = sign_of left.number; by = Filter; wide = 0; calls = 1 })
decides-above left rest h = let t : ltb left.error (unsigned_abs left.number) ≡ true = grind (arith, nat_tests) in rw t refl

-- within it the blocks do
pub decides-within : (left : Held) (rest : Option Verdict) → unsigned_abs left.number ≤ left.error → decides left rest ≡ rest
decides-within left rest h = let t : ltb left.error (unsigned_abs left.number) ≡ false = grind (arith, nat_tests) in rw t refl
