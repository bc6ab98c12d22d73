-- Defines how reads and writes end that a signal may interrupt.
use Rattle.std.specs.Prelude.{◌≡◌, ◌≢◌, ◌⊎◌, ℕ, ◌+◌, ◌-◌, ◌^◌, ◌<◌, Option, None, Some, Result, Ok, Err}
use Rattle.std.specs.IoError.{error_kind}
use Rattle.std.specs.declared.io.Error.{Error}
use Rattle.std.specs.declared.io.ErrorKind.TheVariants.{Interrupted}
use Rattle.ln_disk.specs.declared.tries.Ended.{Ended}

-- what a call's answer comes to after a number of interruptions in a row: its bytes, another try, or a fault, which no interruption is but the last
-- that is counted
abbrev pub Ends : Result ℕ Error → ℕ → ℕ → Option Ended → Type 0
Ends (Ok n) times now end = end ≡ Some (record { count = Ok n })
Ends (Err e) times now None = (error_kind e ≡ Interrupted) × (now ≡ times + 1) × (times < 2 ^ 64 - 1)
Ends (Err e) times now (Some end) = (end.count ≡ Err (record {})) × ((error_kind e ≢ Interrupted) ⊎ (times ≡ 2 ^ 64 - 1))
