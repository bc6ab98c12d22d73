-- Defines a form of texts: the first line, the lines after it by their words, and which line is allowed where.
use Rattle.std.specs.Prelude.{◌≡◌, ℕ, List, [], ◌∷◌, ◌++◌, map, Option, Some, None}
use Rattle.ln_base.specs.Exponents.{Each}
use Rattle.ln_base.specs.Lines.{lines, parted, words}

-- a form of texts: the first line, the words of a line after it, the ranges of what a line says, and the state that a line leads to from a state
-- where it is allowed; a state is what the lines so far end in, and the lines start and end in the same one
pub record Rules (S L : Type 0) : Type 1 where
  pub first : List ℕ
  pub words_of : L → List (List ℕ)
  pub IsLine : L → Type 0
  pub next_of : S → L → Option S
  pub start : S

-- the text of a line: its words, parted by one space, and a line feed
abbrev pub text_of : {S L : Type 0} → Rules S L → L → List ℕ
text_of R l = parted (R.words_of l) ++ 10 ∷ []

-- the texts of the first line and of these lines
abbrev pub texts_of : {S L : Type 0} → Rules S L → List L → List (List ℕ)
texts_of R ls = R.first ∷ map (text_of R) ls

-- one line more, if the lines so far lead anywhere
abbrev pub next_at : {S L : Type 0} → Rules S L → Option S → L → Option S
next_at R None l = None
next_at R (Some s) l = R.next_of s l

-- where lines lead
abbrev pub goes : {S L : Type 0} → Rules S L → Option S → List L → Option S
goes R o [] = o
goes R o (l ∷ ls) = goes R (next_at R o l) ls

-- ---- one line
-- the words are this line, which is allowed in the state and leads to the next
pub record IsRead {S L : Type 0} (R : Rules S L) (s : S) (ws : List (List ℕ)) (l : L) (t : S) : Type 0 where
  pub spelled : ws ≡ R.words_of l
  pub range : R.IsLine l
  pub goes : R.next_of s l ≡ Some t

-- no line of these words is allowed in the state
abbrev pub Refuses : {S L : Type 0} → Rules S L → S → List (List ℕ) → Type 0
Refuses {S = S} {L = L} R s ws = (l : L) (t : S) → IsRead R s ws l t → ⊥

-- this text is no line that is allowed in the state
abbrev pub RefusesText : {S L : Type 0} → Rules S L → S → List ℕ → Type 0
RefusesText {S = S} {L = L} R s t = (l : L) (u : S) → R.IsLine l → R.next_of s l ≡ Some u → t ≡ text_of R l → ⊥

-- ---- what the rules have to keep
-- lines that lead from a state to the end
pub record Finish {S L : Type 0} (R : Rules S L) (s : S) : Type 0 where
  pub last : List L
  pub ranges : Each R.IsLine last
  pub leads : goes R (Some s) last ≡ Some R.start

-- the words of a line are read back, and its text is one line; no words are two lines that are allowed in a state; and a text can be finished from
-- each state
pub record AreSound {S L : Type 0} (R : Rules S L) : Type 0 where
  pub read : (l : L) → R.IsLine l → words (parted (R.words_of l)) ≡ R.words_of l
  pub alone : (l : L) (rest : List ℕ) → R.IsLine l → lines (text_of R l ++ rest) ≡ text_of R l ∷ lines rest
  pub one : (s : S) (x y : L) (t u : S) → R.next_of s x ≡ Some t → R.next_of s y ≡ Some u → R.IsLine x → R.IsLine y
      → R.words_of x ≡ R.words_of y → x ≡ y
  pub finish : (s : S) → Finish R s

-- ---- all lines
-- these texts are the first line and lines that lead from the start back to it
pub record IsWhole {S L : Type 0} (R : Rules S L) (texts : List (List ℕ)) : Type 0 where
  pub read : List L
  pub ranges : Each R.IsLine read
  pub leads : goes R (Some R.start) read ≡ Some R.start
  pub same : texts ≡ texts_of R read
