-- What the commands of a source file alone have in common: one text for its predicates.
use Rattle.std.specs.Prelude.{ℕ, List}
use Rattle.ln_tree.specs.Table.{PredOf}
use Rattle.ln_top.specs.declared.frame.status.End.{End}
use Rattle.ln_top.specs.declared.frame.status.End.TheVariants.{Done}
use Rattle.ln_top.specs.Frame.Said.{Said, whole}
use Rattle.ln_top.specs.Frame.Carried.{NoPart}
use Rattle.ln_top.specs.Frame.Work.{Work}
use Rattle.ln_top.specs.Frame.Signature.{Signature}
use Rattle.ln_top.specs.declared.frame.asked.Asked.TheVariants.{Nothing}

-- what may be said: a text of which this holds
pub data Prints (holds : List ℕ → Type 0) : Said → Type 0 where
  prints : (text : List ℕ) → holds text → Prints holds (whole Done text)

-- how it ends, wherever it is done
pub data IsDone : End → Type 0 where
  done : IsDone Done

-- the signature of a command that takes a source file alone
abbrev pub source_signature : List ℕ → Signature
source_signature word = record { word = word; form = record { least = 0; most = 0; files = 0 }; suits = Nothing }

-- the work of a command that writes a text of which this holds, for the predicates of the source; and that it says one thing
abbrev pub text_work : (List PredOf → List ℕ → Type 0) → Type 0 → Work
text_work holds one = record {
  owes = λ boxes g. Prints (holds g.table.preds);
  part = λ boxes g. NoPart;
  ends = λ g. IsDone;
  one = one;
}
