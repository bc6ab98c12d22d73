-- The records of a rows file, and how work on them ends.
use Rattle.std.specs.Prelude.{◌≡◌, ℕ, Bool, true, false, List, [], ◌∷◌, ◌++◌, All, Ok, Err, codes}
use Rattle.ln_tree.specs.Row.{Row}
use Rattle.ln_tree.specs.Table.{PredOf}
use Rattle.ln_rows.specs.Left.{Records, records_in}
use Rattle.ln_rows.specs.Record.{read_row}
use Rattle.ln_rows.specs.declared.record.RowStop.{RowStop}
use Rattle.ln_top.specs.declared.frame.status.End.{End}
use Rattle.ln_top.specs.declared.frame.status.End.TheVariants.{Done, Rows}
use Rattle.ln_top.specs.Frame.Given.{Given}
use Rattle.ln_rows.specs.Header.{columns_of, IsWrongHeader}
use Rattle.ln_top.specs.Frame.Signature.{Signature}
use Rattle.ln_top.specs.declared.frame.asked.Asked.TheVariants.{FewStages, Nothing}

-- how work on records ends: done where each of them is a row in range, else with the end of an invalid record
abbrev pub end_of : Bool → End
end_of true = Done
end_of false = Rows

-- this many bytes are gathered before they are written
abbrev pub piece : ℕ
piece = 65536

-- the room for a piece and one more line
abbrev pub piece_room : ℕ
piece_room = 65866

-- the first predicate, the names of its columns, and the records of the one rows file
pub record HasRecords (g : Given) (p : PredOf) (names : List (List ℕ)) (records : Records) : Type 0 where
  pub others : List PredOf
  pub pred : g.preds ≡ p ∷ others
  pub columns : names ≡ columns_of g.table p
  pub rows : List ℕ
  pub text : g.texts ≡ rows ∷ []
  pub are : records_in rows ≡ records

-- a record is a row in range, or none
pub record IsRow (p : PredOf) (fields : List (List ℕ)) : Type 0 where
  pub row : Row
  pub read : read_row p.sites p.vars fields ≡ Ok row

-- a record is invalid, and this is its first fault
pub record IsNoRow (p : PredOf) (fields : List (List ℕ)) : Type 0 where
  pub stop : RowStop
  pub read : read_row p.sites p.vars fields ≡ Err stop

-- how it ends, and where: each record after the header is a row in range; the header is wrong; a record is none
pub data RunEnds (g : Given) : End → Type 0 where
  done : (p : PredOf) (names : List (List ℕ)) (records : Records)
      → HasRecords g p names (names ∷ records) → All (IsRow p) records → RunEnds g Done
  wrong : (p : PredOf) (names : List (List ℕ)) (records : Records)
      → HasRecords g p names records → IsWrongHeader names records → RunEnds g Rows
  refused : (p : PredOf) (names : List (List ℕ)) (before after : Records) (fields : List (List ℕ))
      → HasRecords g p names (names ∷ before ++ fields ∷ after) → IsNoRow p fields → RunEnds g Rows

-- the signature of `run`
abbrev pub run_signature : Signature
run_signature = record { word = codes "run"; form = record { least = 1; most = 1; files = 1 }; suits = Nothing }

-- the signature of `graded`
abbrev pub graded_signature : Signature
graded_signature = record {
  word = codes "graded";
  form = record { least = 1; most = 1; files = 1 };
  suits = FewStages;
}
