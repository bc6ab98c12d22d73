-- The lines that `run` and `graded` print are the perturbed signs and what decides them, each in its own order of infinitesimals.
use Rattle.std.specs.Prelude.{◌≡◌, ◌≢◌, ℕ, pos, All, List, [], ◌∷◌, ◌++◌, Option, Ok}
use Rattle.ln_base.specs.Outside.{Shelf, Shown}
use Rattle.ln_algebra.specs.Orders.{BySmallest, ByDegree, Rank}
use Rattle.ln_tree.specs.Row.{InRange, Row}
use Rattle.ln_tree.specs.Table.{PredOf}
use Rattle.ln_code.specs.declared.verdict.Verdict.{Verdict}
use Rattle.ln_compile.specs.Filtered.{IsDueIn}
use Rattle.ln_rows.specs.Left.{Records}
use Rattle.ln_watch.specs.Panel.{State}
use Rattle.ln_rows.specs.Record.{read_row}
use Rattle.ln_top.specs.declared.words.Command.TheVariants.{Graded, Run}
use Rattle.ln_top.specs.Frame.Said.{line, put_both}
use Rattle.ln_top.specs.ByValue.{IsVerdictByValue, plain_value}
use Rattle.ln_top.specs.Perturbed.{IsSignOn, NotZeroWithoutParams}
use Rattle.ln_top.specs.Steps.{WhereGiven}
use Rattle.ln_top.specs.Target.Line.{decider_text, sign_text}
use Rattle.ln_top.specs.Signs.Run.{HasRecords}
use Rattle.ln_top.specs.Target.Target.{HasProgram}

-- the line is the sign and the decider of the verdict that the row, which is in range, requires in this order of infinitesimals. Its sign is
-- the perturbed sign of the predicate on the row; where the value on the row isn't 0, that decides. A predicate without params has no row with
-- the sign 0
pub record HasPerturbedSign (rank : Rank) (p : PredOf) (row : Row) (text : List ℕ) : Type 0 where
  pub range : InRange p.sites p.vars row
  pub verdict : Verdict
  pub due : IsDueIn rank p row verdict
  pub perturbed : IsSignOn rank p row verdict.sign
  pub never_zero : NotZeroWithoutParams p verdict.sign
  pub plain : plain_value p row ≢ pos 0 → IsVerdictByValue p row verdict
  pub text_is : text ≡ line (sign_text verdict.sign ++ 32 ∷ decider_text verdict.by)

-- no byte of these is a line feed
abbrev pub NoFeed : List ℕ → Type 0
NoFeed = All (λ b. b ≢ 10)

-- one line: its only line feed is its end
pub record IsOneLine (text : List ℕ) : Type 0 where
  pub body : List ℕ
  pub is : text ≡ line body
  pub none : NoFeed body

-- one line after the other, exactly one for each record: that of a row has its perturbed sign and what decides it
pub data HavePerturbedSigns (rank : Rank) (p : PredOf) : Records → List ℕ → Type 0 where
  none : HavePerturbedSigns rank p [] []
  more : {fields : List (List ℕ)} {rest : Records} (text texts : List ℕ) → IsOneLine text
      → ((row : Row) → read_row p.sites p.vars fields ≡ Ok row → HasPerturbedSign rank p row text)
      → HavePerturbedSigns rank p rest texts → HavePerturbedSigns rank p (fields ∷ rest) (text ++ texts)

-- what came to Out is such lines; on Err are the lines of watchers alone, and so nothing where none is handed in
pub record PutSigns (rank : Rank) (p : PredOf) (records : Records) (boxes : List State) (was now : Option Shown) : Type 0 where
  pub lines : List ℕ
  pub signs : HavePerturbedSigns rank p records lines
  pub err : List ℕ
  pub none : boxes ≡ [] → err ≡ []
  pub shown : now ≡ put_both lines err was

-- where the words are `run FILE NAME ROWS`, and the files contain the predicate and records after the right header, their lines
-- came to Out
abbrev pub SignsArePerturbed : List (List ℕ) → Shelf → List State → Option Shown → Option Shown → Type 0
SignsArePerturbed words shelf boxes was now = WhereGiven words shelf Run (λ g. (p : PredOf) (names : List (List ℕ)) (records : Records)
    → HasRecords g p names (names ∷ records) → PutSigns BySmallest p records boxes was now)

-- where the words are `graded FILE NAME ROWS`, the same by total degree first, by a program no operation of which leaves its width; watchers are
-- shown nothing
abbrev pub GradedSignsArePerturbed : List (List ℕ) → Shelf → Option Shown → Option Shown → Type 0
GradedSignsArePerturbed words shelf was now = WhereGiven words shelf Graded (λ g. (p : PredOf) (names : List (List ℕ)) (records : Records)
    → HasRecords g p names (names ∷ records) → PutSigns ByDegree p records [] was now × HasProgram ByDegree p)
