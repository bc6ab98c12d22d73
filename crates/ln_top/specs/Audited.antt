-- States what `agreed` means: the trace, whoever made it, tells the perturbed signs.
use Rattle.std.specs.Prelude.{◌≡◌, ℕ, List, ◌∷◌}
use Rattle.ln_base.specs.Outside.{Shelf}
use Rattle.ln_tree.specs.Table.{PredOf}
use Rattle.ln_rows.specs.Left.{Records}
use Rattle.ln_trace.specs.declared.line.TraceLine.{TraceLine}
use Rattle.ln_trace.specs.Form.{TraceText}
use Rattle.ln_trace.specs.Signs.{AreRight, signs_in}
use Rattle.ln_top.specs.declared.frame.status.Status.{Status}
use Rattle.ln_top.specs.declared.frame.status.Status.TheVariants.{Done}
use Rattle.ln_top.specs.declared.words.Command.TheVariants as command
use Rattle.ln_top.specs.Judges.Audit.{HasTrace}
use Rattle.ln_top.specs.Frame.Subject.{subject_of}
use Rattle.ln_top.specs.Steps.{WhereGiven}

-- the bytes are the text of a trace, and what it says of each record is right: nothing of an invalid one, and else the perturbed sign
pub record TellsRight (p : PredOf) (records : Records) (trace : List ℕ) : Type 0 where
  pub lines : List TraceLine
  pub text : TraceText trace lines
  pub right : AreRight (subject_of p) records (signs_in lines)

-- where the words are `audit FILE NAME ROWS TRACE`, and the files contain the predicate, records after the right header and a trace, and
-- the status is done
abbrev pub AgreedTracesTellSigns : List (List ℕ) → Shelf → Status → Type 0
AgreedTracesTellSigns words shelf result = WhereGiven words shelf command.Audit (λ g. (p : PredOf) (names : List (List ℕ))
    (records : Records) (trace : List ℕ) → HasTrace g p names (names ∷ records) trace → result ≡ Done → TellsRight p records trace)
