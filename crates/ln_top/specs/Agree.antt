-- States that what `emit` puts, lnc_c agrees with: it writes the perturbed sign of each row of which it is asked.
use Rattle.std.specs.Prelude.{◌≡◌, ◌≢◌, ℕ, pos, List, [], Option, Some, Contains}
use Rattle.ln_base.specs.Outside.{Shelf, Shown}
use Rattle.ln_base.specs.declared.sign.Sign.{Sign}
use Rattle.ln_algebra.specs.Orders.{BySmallest}
use Rattle.ln_tree.specs.Row.{InRange, Row}
use Rattle.ln_tree.specs.Table.{PredOf}
use Rattle.ln_code.specs.declared.verdict.By.{By}
use Rattle.ln_due.specs.Due.{sign_number}
use Rattle.ln_csyn.specs.Meaning.{Counts}
use Rattle.ln_csyn.specs.Text.{CText}
use Rattle.ln_csyn.specs.Tree.{Fun}
use Rattle.ln_cemit.specs.Names.{call_name}
use Rattle.ln_cmean.specs.Carrying.Calls.{AreMeanings, AreWritten, IsCall, after_lines, first, sign_words}
use Rattle.ln_top.specs.declared.words.Command.TheVariants.{Emit}
use Rattle.ln_top.specs.ByValue.{IsByValue, plain_value}
use Rattle.ln_top.specs.Emitted.{CallsArePerturbed, PutC}
use Rattle.ln_top.specs.Perturbed.{FilterDecides, IsSignOn, NotZeroWithoutParams}
use Rattle.ln_top.specs.Steps.{WhereGiven}

-- Line k of a text, from 0, without its line feed.
abbrev pub line_at : ℕ → List ℕ → List ℕ
line_at k text = first (after_lines k text)

-- The line asks for the predicate on the row: it is a call of `ln_NAME` on the row's indices and values.
abbrev pub AsksFor : PredOf → Row → List ℕ → Type 0
AsksFor p row line = IsCall line (call_name p.name) row.index row.values

-- The line is `SIGN W C`, a sign and two counts, and the sign is the perturbed sign of the predicate on the row. Without params it isn't 0.
-- Where the filter decides, W is 0. Where the value on the row isn't 0, that decides, and C says by how many calls.
pub record SaysPerturbedSign (p : PredOf) (row : Row) (line : List ℕ) : Type 0 where
  pub sign : Sign
  pub counts : Counts
  pub says : line ≡ sign_words (sign_number sign) counts.wide counts.calls
  pub perturbed : IsSignOn BySmallest p row sign
  pub never_zero : NotZeroWithoutParams p sign
  pub narrow : FilterDecides p row → counts.wide ≡ 0
  pub plain : plain_value p row ≢ pos 0 → (by : By) × IsByValue p row sign by counts.calls counts.wide

-- Where a line of the calls asks for one of the predicates on a row in its declared ranges, the same line of the output says the perturbed sign.
abbrev pub AnswersArePerturbed : List PredOf → List ℕ → List ℕ → Type 0
AnswersArePerturbed preds calls out = (k : ℕ) (p : PredOf) (row : Row) → Contains preds p → InRange p.sites p.vars row
    → AsksFor p row (line_at k calls) → SaysPerturbedSign p row (line_at k out)

-- So it is of the meanings of calls in the file whose bytes `emit` put.
abbrev pub MeaningsAgree : Type 0
MeaningsAgree = (preds : List PredOf) (was now : Option Shown) (put : PutC preds was now) (file : List Fun) (calls out : List ℕ)
    → CText put.bytes file → AreMeanings file calls out → AnswersArePerturbed preds calls out

-- nothing on either stream
abbrev pub nothing : Shown
nothing = record { out = []; err = [] }

-- And so it is of the two programs: where `lnc emit FILE` came to its end, and lnc_c came to its own with a first file that has the bytes which were
-- put on standard output, what lnc_c wrote for each call says the perturbed sign.
abbrev pub ProgramsAgree : Type 0
ProgramsAgree = (words others : List (List ℕ)) (shelf disk : Shelf) (put : Shown) (was now : Option Shown)
    → CallsArePerturbed words shelf (Some nothing) (Some put)
    → (wrote : AreWritten others disk was now) → wrote.meant.bytes ≡ put.out
    → WhereGiven words shelf Emit (λ g. AnswersArePerturbed g.table.preds wrote.meant.text wrote.out)
