-- Texts as lines, and lines as words with one space between any two.
use Rattle.std.specs.Prelude.{◌≡◌, ℕ, ◌==◌, List, [], ◌∷◌, ◌++◌, Bool, true, false, if◌then◌else◌}
use Rattle.std.proofs.Common.{zero, suc}

-- ---- lines
-- a byte before the first of some texts
abbrev pub onto : ℕ → List (List ℕ) → List (List ℕ)
onto b [] = (b ∷ []) ∷ []
onto b (t ∷ ts) = (b ∷ t) ∷ ts

-- the lines of the bytes, each with its line feed; the last one may lack it
abbrev pub lines : List ℕ → List (List ℕ)
lines [] = []
lines (b ∷ bs) = if b == 10 then (b ∷ []) ∷ lines bs else onto b (lines bs)

-- one list after the other
abbrev pub joined : {A : Type 0} → List (List A) → List A
joined [] = []
joined (t ∷ ts) = t ++ joined ts

-- ---- words
-- words with one space between any two
abbrev pub parted : List (List ℕ) → List ℕ
parted [] = []
parted (w ∷ []) = w
parted (w ∷ v ∷ ws) = w ++ (32 ∷ parted (v ∷ ws))

-- how many bytes there are before the first `stop`
abbrev pub span_to : ℕ → List ℕ → ℕ
span_to stop [] = 0
span_to stop (b ∷ bs) = if b == stop then 0 else suc (span_to stop bs)

-- the words of a text: what is between its spaces
abbrev pub words : List ℕ → List (List ℕ)
words [] = [] ∷ []
words (b ∷ bs) = if b == 32 then [] ∷ words bs else onto b (words bs)

-- the words from a place on; none past the end
abbrev pub words_from : ℕ → List ℕ → List (List ℕ)
words_from zero bs = words bs
words_from (suc n) [] = []
words_from (suc n) (b ∷ bs) = words_from n bs

-- neither space nor line feed is in it
abbrev pub is_plain : List ℕ → Bool
is_plain [] = true
is_plain (b ∷ bs) = if b == 32 then false else if b == 10 then false else is_plain bs

-- ---- what is appended
-- Things of any kind are written by `text`. A text before and after some were appended: where things of which g puts more before any rest
-- were to be appended to the old text, those that f puts before it are to be appended to the new one.
pub record Leaves {A : Type 0} (text : List A → List ℕ) (old new : List ℕ) (f g : List A → List A) : Type 0 where
  pub is : (rest : List A) → new ++ text (f rest) ≡ old ++ text (g rest)

-- the things that f puts before any rest were appended
abbrev pub Appends : {A : Type 0} → (List A → List ℕ) → List ℕ → List ℕ → (List A → List A) → Type 0
Appends text old new f = Leaves text old new (λ rest. rest) f

-- words with a space before each
abbrev pub spaced : List (List ℕ) → List ℕ
spaced [] = []
spaced (w ∷ ws) = 32 ∷ (w ++ spaced ws)

-- these words were appended
abbrev pub Puts : List ℕ → List ℕ → (List (List ℕ) → List (List ℕ)) → Type 0
Puts old new f = Appends spaced old new f
