-- Rows whose fields are plain numbers, right from the bytes.
use Rattle.std.specs.Prelude.{◌≡◌, ◌≢◌, ◌⊎◌, ℕ, ◌≤◌, ◌++◌, Bool, true, false, List, [], ◌∷◌, length, ℤ, pos, neg_ℤ, Some, Ok}
use Rattle.std.specs.List.{list_all}
use Rattle.std.specs.Char.{is_ascii_digit}
use Rattle.ln_base.specs.Decimal.{decimal_value}
use Rattle.ln_tree.specs.declared.shape.VarInfo.{VarInfo}
use Rattle.ln_code.specs.declared.row.Row.{Row}
use Rattle.ln_rows.specs.Left.{Records, HasFirst}
use Rattle.ln_rows.specs.Number.{within, number_in}
use Rattle.ln_rows.specs.Record.{columns, IsRead}

-- a text begins with digits, at most 18, with this value, and this is after them
pub record HasDigits (text : List ℕ) (n : ℕ) (rest : List ℕ) : Type 0 where
  pub digits : List ℕ
  pub is : text ≡ digits ++ rest
  pub all : list_all is_ascii_digit digits ≡ true
  pub few : length digits ≤ 18
  pub value : n ≡ decimal_value digits

-- the number n, or its opposite where the sign is negative
abbrev pub signed_of : Bool → ℕ → ℤ
signed_of true n = neg_ℤ (pos n)
signed_of false n = pos n

-- one or more of them, whose number with this sign is from lo to hi
pub record HasSigned (negative : Bool) (text : List ℕ) (lo hi z : ℤ) (rest : List ℕ) : Type 0 where
  pub n : ℕ
  pub digits : HasDigits text n rest
  pub some : length rest ≢ length text
  pub says : within lo hi (Some (signed_of negative n)) ≡ Ok z

-- a byte of a field without quotes that isn't its end
pub record IsInner (b : ℕ) : Type 0 where
  pub comma : b ≢ 44
  pub quote : b ≢ 34
  pub feed : b ≢ 10
  pub return_ : b ≢ 13

-- each of these bytes is in a field without quotes, and none is its end
abbrev pub AreInner : List ℕ → Type 0
AreInner [] = Unit {0}
AreInner (b ∷ bs) = IsInner b × AreInner bs

-- a text begins with a field of such bytes, which says this number from lo to hi, and this is after it
pub record HasNumber (text : List ℕ) (lo hi z : ℤ) (rest : List ℕ) : Type 0 where
  pub first : ℕ
  pub others : List ℕ
  pub is : text ≡ first ∷ (others ++ rest)
  pub inner : AreInner (first ∷ others)
  pub says : number_in lo hi (first ∷ others) ≡ Ok z

-- a text begins with a line feed or a return, and this is after it
abbrev pub PastFeed : List ℕ → List ℕ → Type 0
PastFeed text rest = (text ≡ 10 ∷ rest) ⊎ (text ≡ 13 ∷ rest)

-- a text begins with the end of a record, and this is after it
abbrev pub PastEnd : List ℕ → List ℕ → Type 0
PastEnd text rest = PastFeed text rest ⊎ ((text ≡ []) × (rest ≡ []))

-- a text begins with a comma, or with the end of a record
abbrev pub IsPast : Bool → List ℕ → List ℕ → Type 0
IsPast true text rest = PastEnd text rest
IsPast false text rest = text ≡ 44 ∷ rest

-- such a field and a comma, or the end of the record, and this is after them
pub record HasValue (text : List ℕ) (lo hi : ℤ) (last : Bool) (z : ℤ) (rest : List ℕ) : Type 0 where
  pub behind : List ℕ
  pub number : HasNumber text lo hi z behind
  pub past : IsPast last behind rest

-- the first record of a text has a field for each column, and the program's row is what they say
pub record IsPlainRow (vars : List VarInfo) (text rest : List ℕ) (r : Row) : Type 0 where
  pub fields : List (List ℕ)
  pub gives : HasFirst text fields rest
  pub size : length fields ≡ length (columns vars)
  pub read : IsRead vars fields r

-- the next record is taken, which is such a row
pub record TakenRow (vars : List VarInfo) (old new : Records) (r : Row) : Type 0 where
  pub fields : List (List ℕ)
  pub next : old ≡ fields ∷ new
  pub size : length fields ≡ length (columns vars)
  pub read : IsRead vars fields r

-- the next record is taken, and is such a row; or none is taken
abbrev pub TakesPlainRow : List VarInfo → Bool → Records → Records → Row → Type 0
TakesPlainRow vars true old new r = TakenRow vars old new r
TakesPlainRow vars false old new r = new ≡ old
