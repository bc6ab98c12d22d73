-- The records of bytes in memory.
use Rattle.std.specs.Prelude.{◌≡◌, ◌⊎◌, ℕ, ◌<◌, ◌^◌, ◌+◌, ◌∷◌, Bool, true, false, List, [], length, take, if◌then◌else◌, Option, Some, None, unwrap_or}
use denote.Ref.{Bor}
use Rattle.std.specs.Io.Chain.{chain_remaining}
use Rattle.std.specs.declared.io.traits.Chain.{Chain}
use Rattle.csv.specs.Machine.{Read, next_record}
use Rattle.csv.specs.Reading.{records, records_from, default_config, strip_bom, Ready, source_of, has_failed, is_flexible, reader_config}
use Rattle.csv.specs.Reading.{reader_trim, reader_state}
use Rattle.csv.specs.declared.parser.State.{State}
use Rattle.csv.specs.declared.parser.State.TheVariants as st
use Rattle.csv.specs.declared.reader.Reader.{Reader}
use Rattle.csv.specs.declared.reader.Trim.TheVariants as trim

-- records, each with the bytes of its fields
abbrev pub Records : Type 0
Records = List (List (List ℕ))

-- the records of bytes, by csv's own definition with its default settings
abbrev pub records_of : List ℕ → Records
records_of bytes = records default_config bytes

-- the records of a rows file: those after a byte order mark
abbrev pub records_in : List ℕ → Records
records_in bytes = records_of (strip_bom bytes)

-- the first record of bytes by that definition, with the rest after it
abbrev pub first_of : List ℕ → Option Read
first_of bytes = next_record default_config st.StartRecord [] [] bytes

-- the states in which csv is between two records
abbrev pub IsBetween : State → Type 0
IsBetween s = (s ≡ st.StartRecord) ⊎ (s ≡ st.AfterCr)

-- the first record of a text has these fields, and this remains after it
pub record HasFirst (text : List ℕ) (fields : List (List ℕ)) (rest : List ℕ) : Type 0 where
  pub state : State
  pub between : IsBetween state
  pub first : first_of text ≡ Some (fields, state, rest)

-- a read takes the next record, or there is none
abbrev pub Takes : Bool → Records → Records → List (List ℕ) → Type 0
Takes true old new fields = old ≡ fields ∷ new
Takes false old new fields = old ≡ []

-- a read takes the next record and keeps the first of its fields, at most this many; or there is none
pub record TakesFirst (most : ℕ) (old new : Records) (kept : List (List ℕ)) : Type 0 where
  pub fields : List (List ℕ)
  pub next : old ≡ fields ∷ new
  pub first : kept ≡ take most fields
  pub few : length fields < 2 ^ 64

-- a read takes the next record and keeps at most this many of its fields, or there is none
abbrev pub TakesWithin : ℕ → Bool → Records → Records → List (List ℕ) → Type 0
TakesWithin most true old new kept = TakesFirst most old new kept
TakesWithin most false old new kept = old ≡ []

-- what a reader of csv's reads here: bytes in memory after others
abbrev pub Source : Type 0
Source = Chain (Bor (List ℕ)) (Bor (List ℕ))

-- the bytes that remain in such a source
abbrev pub bytes_of : Source → Option (List ℕ)
bytes_of = chain_remaining (λ s. Some s.now) (λ s. Some s.now)

-- the bytes that remain in a reader of csv's; none where it has failed, or where they aren't known
abbrev pub reader_bytes : Reader Source → List ℕ
reader_bytes r = unwrap_or (source_of bytes_of r) []

-- the records of the bytes that remain for a reader of csv's, from the state in which it is; none where it has failed
abbrev pub reader_records : Reader Source → Records
reader_records r = if has_failed r then [] else records_from default_config (length (reader_bytes r) + 1) (reader_state r) (reader_bytes r)

-- a reader with csv's default settings, but for lengths, which may differ; its next read returns a record as it is in the
-- bytes, which are known
pub record IsReading (r : Reader Source) : Type 0 where
  pub config : reader_config r ≡ default_config
  pub trim : reader_trim r ≡ trim.None
  pub flexible : is_flexible r ≡ true
  pub ready : Ready r
  pub bytes : List ℕ
  pub known : source_of bytes_of r ≡ Some bytes

-- a reader that hasn't failed reads records as they are in bytes that are known
abbrev pub MayRead : Reader Source → Type 0
MayRead r = has_failed r ≡ false → IsReading r

-- the remaining records: those of the bytes while no record had a quote, and then those of the reader
abbrev pub left_of : List ℕ → Option Records → Records
left_of rest None = records_of rest
left_of rest (Some records) = records
