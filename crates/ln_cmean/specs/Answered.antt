-- States what the code returns in terms of the meaning.
use Rattle.std.specs.Prelude.{ℕ, Option, Some, None, Result, Ok, Err, ℤ}
use Rattle.ln_cmean.specs.declared.number.Counts.{Counts}
use Rattle.ln_cmean.specs.declared.number.Number.{Number}
use Rattle.ln_cmean.specs.declared.number.Fault.{Fault}
use Rattle.ln_cmean.specs.declared.number.Fault.TheVariants.{Here, At}
use Rattle.ln_cmean.specs.declared.body.Flow.{Flow}
use Rattle.ln_cmean.specs.declared.body.Flow.TheVariants.{Went, Said}
use Rattle.ln_cmean.specs.declared.calling.CAnswer.{CAnswer}
use Rattle.ln_cmean.specs.declared.calling.CFault.{CFault}
use Rattle.ln_cmean.specs.declared.calling.CFault.TheVariants.{NoFunction, Undefined}
use Rattle.ln_csyn.specs.Meaning.{Answer, Gives, Fails, Outcome, Wrong, CMeaning, Signed}
use Rattle.ln_csyn.specs.Meaning as m

-- the counts of the code, as the meaning's
abbrev pub tally : Counts → m.Counts
tally k = record { wide = k.wide; calls = k.calls }

-- a fault in a called function has its line
abbrev pub fault_line : Fault → Option ℕ
fault_line Here = None
fault_line (At l) = Some l

-- what an expression evaluates to, with the counts after it
abbrev pub answered : Result Number Fault → m.Counts → Answer
answered (Ok n) k = Gives n.kind n.number k
answered (Err e) k = Fails (fault_line e)

-- goes on with a number, with these counts; or no meaning at a line
abbrev pub goes_with : Result ℤ ℕ → m.Counts → (ℤ → m.Counts → Outcome) → Outcome
goes_with (Ok z) k go = go z k
goes_with (Err l) k go = Wrong l

-- goes on after a statement that doesn't return
abbrev pub goes_on : Result Flow ℕ → m.Counts → (m.Counts → Outcome) → Outcome
goes_on (Ok Went) k go = go k
goes_on (Ok (Said z)) k go = m.Said z k
goes_on (Err l) k go = Wrong l

-- what a body does, with the counts after it
abbrev pub ended : Result Flow ℕ → m.Counts → Outcome
ended r k = goes_on r k m.Went

-- the meaning that a result of `call` stands for
abbrev pub told : Result CAnswer CFault → Option CMeaning
told (Ok a) = Some (Signed a.sign (record { wide = a.wide; calls = a.calls }))
told (Err NoFunction) = None
told (Err (Undefined l)) = Some (m.Undefined l)
