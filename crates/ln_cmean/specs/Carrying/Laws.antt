-- States what a line of a text of calls is, and what the line of the output is that is written for it.
use Rattle.std.specs.Prelude.{◌≡◌, ◌↔◌, ℕ, ◌<◌, ℤ, List, length}
use Rattle.ln_csyn.specs.Meaning.{CCall}
use Rattle.ln_csyn.specs.Tree.{Fun}
use Rattle.ln_cmean.specs.Carrying.Calls.{AreMeanings, IsCall, after_lines, first, meaning_words}

-- No line is two calls.
abbrev pub OneCall : Type 0
OneCall = (line name name2 : List ℕ) (index index2 values values2 : List ℤ)
    → IsCall line name index values → IsCall line name2 index2 values2 → (name ≡ name2) × (index ≡ index2) × (values ≡ values2)

-- The line is a call, and its meaning in a file of these functions is the other line. Neither has its line feed.
pub record IsSaid (fs : List Fun) (line said : List ℕ) : Type 0 where
  pub name : List ℕ
  pub index : List ℤ
  pub values : List ℤ
  pub call : IsCall line name index values
  pub is : said ≡ meaning_words (CCall fs name index values)

-- Line k of the meanings, from 0, is the meaning of the call that is line k of the text.
abbrev pub LinesAreMeanings : Type 0
LinesAreMeanings = (fs : List Fun) (text out : List ℕ) → AreMeanings fs text out
    → (k : ℕ) → 0 < length (after_lines k text) → IsSaid fs (first (after_lines k text)) (first (after_lines k out))

-- The meanings have as many lines as the text.
abbrev pub AsManyLines : Type 0
AsManyLines = (fs : List Fun) (text out : List ℕ) → AreMeanings fs text out
    → (k : ℕ) → (0 < length (after_lines k text)) ↔ (0 < length (after_lines k out))
