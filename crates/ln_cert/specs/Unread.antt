-- Defines a listing that is read line by line: the rest after some lines.
use Rattle.std.specs.Prelude.{◌≡◌, ℕ, ◌+◌, ◌<◌, List, [], length, Option, Some, None}
use Rattle.ln_base.specs.Forms.Unread as rest
use Rattle.ln_cert.specs.declared.part.Entry.{Entry}
use Rattle.ln_cert.specs.declared.part.Part.{Part}
use Rattle.ln_cert.specs.declared.part.State.{State}
use Rattle.ln_cert.specs.Listing.{AreNumbered, ListText, parts_of}
use Rattle.ln_cert.specs.Reading.{list_rules}

-- a listing after some of its lines: its version, what those lines end in, the number of the next line, and the text from there on
pub record Unread : Type 0 where
  pub version : ℕ
  pub state : State
  pub line : ℕ
  pub text : List ℕ

-- the same without the version
abbrev pub rest_of : Unread → rest.Unread State
rest_of u = record { state = u.state; line = u.line; text = u.text }

-- the text is these lines, and with them the listing ends
abbrev pub AreLeft : Unread → List Part → Type 0
AreLeft u ps = rest.AreLeft (list_rules u.version) (rest_of u) ps

-- some lines remain, few enough that each has a number
abbrev pub IsUnread : Unread → Type 0
IsUnread u = rest.IsUnread (list_rules u.version) (rest_of u)

-- the bytes are a listing, of which all lines but the first remain
pub record IsOpened (bytes : List ℕ) (u : Unread) : Type 0 where
  pub parts : List Part
  pub listing : ListText bytes u.version parts
  pub left : AreLeft u parts
  pub second : u.line ≡ 2

-- the first of these lines is this, and the others remain
abbrev pub GoesOn : List Part → Part → Unread → Type 0
GoesOn ps p w = rest.GoesOn (list_rules w.version) ps p (rest_of w)

-- the first of the remaining lines is taken, with its number
pub record IsTaken (u : Unread) (e : Entry) (w : Unread) : Type 0 where
  pub goes_on : (ps : List Part) → AreLeft u ps → GoesOn ps e.part w
  pub number : e.line ≡ u.line
  pub next : w.line ≡ u.line + 1
  pub version : w.version ≡ u.version
  pub shorter : length w.text < length u.text

-- the first line is taken if there is one; else none remains, before and after
abbrev pub Takes : Unread → Option Entry → Unread → Type 0
Takes u None w = ((ps : List Part) → AreLeft u ps → ps ≡ []) × (w ≡ u)
Takes u (Some e) w = IsTaken u e w

-- the text is the lines of these entries, which have their numbers, and with them the listing ends
abbrev pub HaveEntries : Unread → List Entry → Type 0
HaveEntries u es = AreLeft u (parts_of es) × AreNumbered u.line es
