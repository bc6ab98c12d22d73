-- What was met on the way along a list: how many blocks were passed, how many of their operations were wide, and how many calls there were.
use Rattle.std.specs.Prelude.{◌≡◌, ℕ, ◌+◌, ◌<◌, ◌^◌, ℤ, List, ◌++◌, length, Option}
use Rattle.ln_code.specs.declared.run.Met.{Met}
use Rattle.ln_code.specs.declared.verdict.Verdict.{Verdict}
use Rattle.ln_code.specs.Part.{Code, sum_of, wide_at}
use Rattle.ln_code.specs.Verdict.{along}

-- after what was met the rest of the list has this verdict, and the counts have room for the rest
pub record IsMet (values : List ℤ) (blocks : List Code) (answer : Option Verdict) (rest : List ℕ) (met : Met) : Type 0 where
  pub goes_on : along values blocks rest met.place met.wide met.calls ≡ answer
  pub places : met.place + length rest < 2 ^ 32
  pub calls : met.calls + length rest < 2 ^ 32
  pub wides : met.wide + sum_of (wide_at blocks) rest < 2 ^ 32

-- there is a list that begins with this segment, on the way to some verdict
pub record HasMet (values : List ℤ) (blocks : List Code) (segment : List ℕ) (met : Met) : Type 0 where
  pub answer : Option Verdict
  pub rest : List ℕ
  pub begins : IsMet values blocks answer (segment ++ rest) met
