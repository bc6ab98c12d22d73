-- The line of each record: of a verdict, of the verdicts of factors, or of why it is invalid.
use Rattle.std.specs.Prelude.{◌≡◌, ℕ, Bool, true, false, List, [], ◌∷◌, ◌++◌, slice_index_or}
use Rattle.std.specs.Prelude.{codes, decimal, Result, Ok, Err}
use Rattle.ln_base.specs.declared.sign.Sign.{Sign}
use Rattle.ln_base.specs.declared.sign.Sign.TheVariants.{Minus, Zero, Plus}
use Rattle.ln_algebra.specs.Orders.{Rank}
use Rattle.ln_tree.specs.Row.{Row}
use Rattle.ln_tree.specs.Table.{PredOf}
use Rattle.ln_code.specs.declared.verdict.Verdict.{Verdict}
use Rattle.ln_code.specs.declared.verdict.By.{By}
use Rattle.ln_code.specs.declared.verdict.By.TheVariants.{Filter, Stage, Nothing}
use Rattle.ln_rows.specs.declared.record.RowStop.{RowStop}
use Rattle.ln_rows.specs.declared.record.RowStop.TheVariants.{Fields, Number, Range, Index}
use Rattle.ln_rows.specs.Record.{read_row}
use Rattle.ln_compile.specs.Filtered.{IsDueIn}

-- a sign as text: `-`, `0` or `+`
abbrev pub sign_text : Sign → List ℕ
sign_text Minus = codes "-"
sign_text Zero = codes "0"
sign_text Plus = codes "+"

-- the decider: the filter, the place of a stage, or nothing
abbrev pub decider_text : By → List ℕ
decider_text Filter = codes "F"
decider_text (Stage place) = decimal place
decider_text Nothing = codes "-"

-- why a record is invalid; a column by its name
abbrev pub stop_text : List (List ℕ) → RowStop → List ℕ
stop_text names Fields = codes "! fields"
stop_text names (Number k) = codes "! number " ++ slice_index_or names k []
stop_text names (Range k) = codes "! range " ++ slice_index_or names k []
stop_text names (Index k) = codes "! index " ++ slice_index_or names k []

-- a verdict's sign, a space and its decider; or why the record is invalid
abbrev pub said_text : List (List ℕ) → Result Verdict RowStop → List ℕ
said_text names (Ok v) = sign_text v.sign ++ 32 ∷ decider_text v.by
said_text names (Err stop) = stop_text names stop

-- the result on a record, by the columns of a predicate: what the record's row requires, or why the record is invalid
pub data SaysOf {T : Type 0} (IsOwed : Row → T → Type 0) (p : PredOf) (fields : List (List ℕ)) : Result T RowStop → Type 0 where
  due : (row : Row) (v : T) → read_row p.sites p.vars fields ≡ Ok row → IsOwed row v → SaysOf IsOwed p fields (Ok v)
  refused_ : (stop : RowStop) → read_row p.sites p.vars fields ≡ Err stop → SaysOf IsOwed p fields (Err stop)

-- the result of a predicate on a record in an order of infinitesimals: a verdict, or why the record is invalid
abbrev pub Says : Rank → PredOf → List (List ℕ) → Result Verdict RowStop → Type 0
Says rank p = SaysOf (IsDueIn rank p) p

-- is the result of reading a record a row?
abbrev pub is_read : Result Row RowStop → Bool
is_read (Ok row) = true
is_read (Err stop) = false

-- is a record a row in range?
abbrev pub is_row : PredOf → List (List ℕ) → Bool
is_row p fields = is_read (read_row p.sites p.vars fields)

-- a line names no column: that of a verdict, or of another number of fields
abbrev pub is_bare_stop : RowStop → Bool
is_bare_stop Fields = true
is_bare_stop (Number k) = false
is_bare_stop (Range k) = false
is_bare_stop (Index k) = false

-- does the line of a verdict, or of a refused record, name no column?
abbrev pub is_bare : {T : Type 0} → Result T RowStop → Bool
is_bare (Ok v) = true
is_bare (Err stop) = is_bare_stop stop

-- the line of a record names none
abbrev pub is_bare_record : PredOf → List (List ℕ) → Bool
is_bare_record p fields = is_bare (read_row p.sites p.vars fields)

-- the room that any line fits in that names no column
abbrev pub line_room : ℕ
line_room = 64

-- a sign and the verdicts of the factors
pub record Multiplied : Type 0 where
  pub sign : Sign
  pub verdicts : List Verdict

-- the deciders of verdicts: this byte before the first, and a comma before each further one
abbrev pub deciders_after : ℕ → List Verdict → List ℕ
deciders_after byte [] = []
deciders_after byte (v ∷ vs) = byte ∷ decider_text v.by ++ deciders_after 44 vs

-- the sign, a space and the deciders, with commas between; or why the record is invalid
abbrev pub product_text : List (List ℕ) → Result Multiplied RowStop → List ℕ
product_text names (Ok m) = sign_text m.sign ++ deciders_after 32 m.verdicts
product_text names (Err stop) = stop_text names stop

-- what is said with these verdicts
abbrev pub with_verdicts : List Verdict → Result Sign RowStop → Result Multiplied RowStop
with_verdicts vs (Ok s) = Ok (record { sign = s; verdicts = vs })
with_verdicts vs (Err stop) = Err stop

-- the room that eight deciders fit in, in bytes
abbrev pub deciders_room : ℕ
deciders_room = 328

-- the room that a line fits in that names no column; the longest is that of a product of eight factors
abbrev pub row_room : ℕ
row_room = 330
