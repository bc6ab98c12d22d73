-- Defines what a part of the program has done of what is required: the one contract of every level.
use Rattle.std.specs.Prelude.{◌≡◌, ◌≢◌, ◌⊎◌, ℕ, List, [], codes, Option, Result, Ok, Err}
use Rattle.ln_base.specs.Outside.{Shown, refused}
use Rattle.ln_top.specs.declared.frame.status.End.{End}
use Rattle.ln_top.specs.declared.frame.status.Early.{Early}
use Rattle.ln_top.specs.declared.frame.status.Early.TheVariants.{Read, Write, Memory}
use Rattle.ln_top.specs.declared.frame.stop.Why.{Why}
use Rattle.ln_top.specs.declared.frame.stop.Stop.{Stop}
use Rattle.ln_top.specs.declared.frame.stop.Stop.TheVariants as stop
use Rattle.ln_base.specs.Prefixes.{IsPrefix}
use Rattle.ln_top.specs.Frame.Said.{Said, Count, Rises, IsCalm, Writes, line, put_both}
use Rattle.ln_top.specs.Frame.Stop.{why_end, why_text}
use Rattle.ln_top.specs.Frame.Given.{Outcome, stops, missing}

-- the error line of a file that was not read
abbrev pub read_line : List ℕ
read_line = line (codes "error read")

-- a fault of writing leaves on each stream a prefix of what is required; or, where a file wasn't read, on Err a prefix
-- of the line that says so, and on Out nothing
pub data LeavesFronts (owes : Said → Type 0) (unread : Type 0) (was now : Option Shown) : Type 0 where
  of_owed : (said : Said) (out err : List ℕ) → owes said → IsPrefix said.out out → IsPrefix said.err err
      → now ≡ put_both out err was → LeavesFronts owes unread was now
  of_read : (err : List ℕ) → unread → IsPrefix read_line err → now ≡ put_both [] err was → LeavesFronts owes unread was now

-- where memory runs out, nothing is written; or a part that may be written, which is a prefix of what is required
pub data LeavesPart (owes : Said → Type 0) (part : List ℕ → List ℕ → Type 0) (was now : Option Shown) : Type 0 where
  nothing : now ≡ was → LeavesPart owes part was now
  of_part : (said : Said) (out err : List ℕ) → part out err → owes said → IsPrefix said.out out → IsPrefix said.err err
      → now ≡ put_both out err was → LeavesPart owes part was now

-- what this may say was said; or a file is missing or its count of faults rose; or the console's count rose; or memory ran out
pub data CarriesOut (owes : Said → Type 0) (part : List ℕ → List ℕ → Type 0) (lacks reads : Type 0)
    (puts : Count) (result : Result End Early) (was now : Option Shown) : Type 0 where
  ended : (said : Said) → IsCalm puts → owes said → result ≡ Ok said.end → now ≡ put_both said.out said.err was
      → CarriesOut owes part lacks reads puts result was now
  unread : IsCalm puts → reads ⊎ lacks → result ≡ Err Read → now ≡ put_both [] read_line was
      → CarriesOut owes part lacks reads puts result was now
  cut : Rises puts → LeavesFronts owes (reads ⊎ lacks) was now → result ≡ Err Write
      → CarriesOut owes part lacks reads puts result was now
  short : IsCalm puts → LeavesPart owes part was now → result ≡ Err (Memory refused)
      → CarriesOut owes part lacks reads puts result was now

-- no part is written when memory runs out
abbrev pub NoPart : List ℕ → List ℕ → Type 0
NoPart out err = ⊥

-- why a step of the program stopped
pub data Halts {A : Type 0} (step : Outcome A → Type 0) (reads : Type 0) : Stop → Type 0 where
  tells : (why : Why) → step (stops why) → Halts step reads (stop.Tell why)
  unread : reads ⊎ step missing → Halts step reads stop.Read
  short : Halts step reads (stop.Memory refused)

-- the line of a stop was written, or cut off by a fault of writing; out of memory has no line
abbrev pub stop_line : Stop → List ℕ
stop_line (stop.Tell why) = line (why_text why)
stop_line stop.Read = read_line
stop_line (stop.Memory m) = []

-- the result of a stop: the end that its reason has, or the fault of reading or of allocation
abbrev pub stop_result : Stop → Result End Early
stop_result (stop.Tell why) = Ok (why_end why)
stop_result stop.Read = Err Read
stop_result (stop.Memory m) = Err (Memory m)

-- the line of a stop was written; or a fault of writing cut it short; or an allocation failed, and nothing was written
abbrev pub Says : Stop → Count → Result End Early → Option Shown → Option Shown → Type 0
Says s = Writes [] (stop_line s) (λ result. result ≡ stop_result s) (λ result. (s ≢ stop.Memory refused) × (result ≡ Err Write))
    (λ result. (s ≢ stop.Read) × (result ≡ Err (Memory refused)))

-- a whole text was written to Out, or cut off
abbrev pub PutsText : List ℕ → End → Count → Result End Early → Option Shown → Option Shown → Type 0
PutsText text end = Writes text [] (λ result. result ≡ Ok end) (λ result. result ≡ Err Write) (λ result. ⊥)
