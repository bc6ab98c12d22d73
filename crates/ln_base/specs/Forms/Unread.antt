-- Defines a text that is read line by line: the line at the start of a text, and what remains after some lines.
use Rattle.std.specs.Prelude.{◌≡◌, ℕ, ◌+◌, ◌<◌, ◌≤◌, List, [], ◌∷◌, ◌++◌, length, map, drop, Option, Some, None}
use Rattle.ln_base.specs.Exponents.{Each}
use Rattle.ln_base.specs.Lines.{lines}
use Rattle.ln_base.specs.declared.lines.stop.TextStop.{TextStop}
use Rattle.ln_base.specs.declared.lines.stop.TextStop.TheVariants.{Form, NoMemory}
use Rattle.ln_base.specs.Forms.Fault.{IsFaultOf}
use Rattle.ln_base.specs.Forms.Form.{IsWhole, RefusesText, Rules, goes, text_of}

-- ---- the start of a text
-- it is this line with its line feed, which has this many bytes
pub record IsFirst (text first : List ℕ) (count : ℕ) : Type 0 where
  pub same : lines text ≡ first ∷ lines (drop count text)
  pub within : count ≤ length text

-- no line feed ends the first line
abbrev pub NoFirst : List ℕ → Type 0
NoFirst text = (line : List ℕ) (behind : List (List ℕ)) → lines text ≡ (line ++ 10 ∷ []) ∷ behind → ⊥

-- it is this line, which is allowed in the state and leads to the next; it has this many bytes, with its line feed
pub record Begins {S L : Type 0} (R : Rules S L) (s : S) (text : List ℕ) (l : L) (t : S) (count : ℕ) : Type 0 where
  pub same : lines text ≡ text_of R l ∷ lines (drop count text)
  pub range : R.IsLine l
  pub leads : R.next_of s l ≡ Some t
  pub some : 0 < count
  pub within : count ≤ length text

-- it is no line that is allowed in the state
pub record NoneBegins {S L : Type 0} (R : Rules S L) (s : S) (text : List ℕ) : Type 0 where
  pub first : List ℕ
  pub behind : List (List ℕ)
  pub same : lines text ≡ first ∷ behind
  pub refused : RefusesText R s first

-- ---- what remains
-- a text after some of its lines: what those lines end in, the number of the next line, and the text from there on
pub record Unread (S : Type 0) : Type 0 where
  pub state : S
  pub line : ℕ
  pub text : List ℕ

-- the text is these lines, and with them the whole ends
pub record AreLeft {S L : Type 0} (R : Rules S L) (u : Unread S) (ls : List L) : Type 0 where
  pub texts : lines u.text ≡ map (text_of R) ls
  pub ranges : Each R.IsLine ls
  pub ends : goes R (Some u.state) ls ≡ Some R.start

-- some lines remain, few enough that each has a number
pub record IsUnread {S L : Type 0} (R : Rules S L) (u : Unread S) : Type 0 where
  pub rest : List L
  pub left : AreLeft R u rest
  pub few : u.line + length u.text ≤ 67108866

-- the bytes are of the form, and all lines but the first remain
pub record IsOpened {S L : Type 0} (R : Rules S L) (bytes : List ℕ) (u : Unread S) : Type 0 where
  pub whole : IsWhole R (lines bytes)
  pub left : AreLeft R u whole.read
  pub unread : IsUnread R u
  pub second : u.line ≡ 2

-- this is the first line at which the bytes stop being of the form, or memory ran out
abbrev pub Stops : {S L : Type 0} → Rules S L → List ℕ → TextStop → Type 0
Stops R bytes (Form at) = IsFaultOf (IsWhole R) bytes at
Stops R bytes (NoMemory _) = Unit {0}

-- the first of these lines is this, and the others remain
pub record GoesOn {S L : Type 0} (R : Rules S L) (ls : List L) (l : L) (w : Unread S) : Type 0 where
  pub behind : List L
  pub first : ls ≡ l ∷ behind
  pub left : AreLeft R w behind

-- the first of the remaining lines is taken
pub record IsTaken {S L : Type 0} (R : Rules S L) (u : Unread S) (l : L) (w : Unread S) : Type 0 where
  pub goes_on : (ls : List L) → AreLeft R u ls → GoesOn R ls l w
  pub next : w.line ≡ u.line + 1
  pub shorter : length w.text < length u.text

-- the first line is taken if there is one; else none remains, before and after
abbrev pub Takes : {S L : Type 0} → Rules S L → Unread S → Option L → Unread S → Type 0
Takes {L = L} R u None w = ((ls : List L) → AreLeft R u ls → ls ≡ []) × (w ≡ u)
Takes R u (Some l) w = IsTaken R u l w
