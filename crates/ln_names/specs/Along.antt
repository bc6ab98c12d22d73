-- Each NAME and each NUMBER of a file is judged, in order of the text.
use Rattle.std.specs.Prelude.{◌≡◌, ℕ, suc, ◌||◌, not, Bool, true, false, List, [], ◌∷◌, length, Option, Some}
use Rattle.ln_syntax.specs.Raw.{Token, Item, kind_at, span_at, Kind, Name, Number}
use Rattle.ln_syntax.specs.File.{Spelt}
use Rattle.ln_names.specs.Rules.{Use, is_name, is_number}
use Rattle.ln_names.specs.Visits.{Visit, visit, file_visits}

-- neither a NAME nor a NUMBER
abbrev pub is_other : Option Kind → Bool
is_other (Some Name) = false
is_other (Some Number) = false
is_other o = true

-- a NAME is judged by the rules on names, a NUMBER by those on numbers, another token by neither
abbrev pub fits : Option Kind → Use → Bool
fits (Some Name) u = is_name u
fits (Some Number) u = is_number u
fits o u = not (is_name u || is_number u)

-- going over the tokens from place i up to place j, each is the next one that is judged, or it is passed over and is neither a
-- NAME nor a NUMBER
pub data Along (ts : List Token) : ℕ → ℕ → List Visit → Type 0 where
  done : {i : ℕ} → Along ts i i []
  passed : {i j : ℕ} {vs : List Visit} → is_other (kind_at ts i) ≡ true → Along ts (suc i) j vs → Along ts i j vs
  judged : {i j : ℕ} {u : Use} {vs : List Visit} → fits (kind_at ts i) u ≡ true → Along ts (suc i) j vs →
      Along ts i j (visit u (span_at ts i) ∷ vs)

-- the tokens that the rules speak of are in order of the text, and no NAME and no NUMBER is left out
abbrev pub JudgesInOrder : Type 0
JudgesInOrder = (ts : List Token) (xs : List Item) → Spelt ts xs → Along ts 0 (length ts) (file_visits ts xs)
