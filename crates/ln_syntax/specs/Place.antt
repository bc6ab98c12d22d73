-- Where tokens stop being a prefix of a file, and where parentheses are nested too deep.
use Rattle.std.specs.Prelude.{◌≡◌, ℕ, suc, ◌-◌, ◌<◌, ◌≤◌, List, [], ◌∷◌, length, take}
use Rattle.ln_base.specs.Prefixes.{IsPrefixOf}
use Rattle.ln_syntax.specs.Raw.{Token, Item, Is, Kind, ParL, ParR}
use Rattle.ln_syntax.specs.File.{Spelt}

-- the tokens are a file of the grammar
abbrev pub IsText : List Token → Type 0
IsText ts = (xs : List Item) × Spelt ts xs

-- the first token such that the tokens up to it and with it are no prefix of a file; the end, where all are a prefix and no file
pub record IsSyntaxFault (ts : List Token) (at : ℕ) : Type 0 where
  pub within : at ≤ length ts
  pub front : IsPrefixOf IsText (take at ts)
  pub refused : at < length ts → IsPrefixOf IsText (take (suc at) ts) → ⊥
  pub unfinished : at ≡ length ts → IsText ts → ⊥

-- ( adds one to the depth and ) takes one off, never below 0
abbrev pub depth_behind : ℕ → Kind → ℕ
depth_behind d ParL = suc d
depth_behind d ParR = d - 1
depth_behind d k = d

-- how many parentheses are open after the tokens
abbrev pub depth_after : ℕ → List Token → ℕ
depth_after d [] = d
depth_after d (t ∷ ts) = depth_after (depth_behind d t.kind) ts

-- no parenthesis makes the depth 65
abbrev pub IsShallow : List Token → Type 0
IsShallow ts = (j : ℕ) → Is ts j ParL → depth_after 0 (take j ts) < 64

-- the first parenthesis that makes the depth 65
pub record IsNestingFault (ts : List Token) (at : ℕ) : Type 0 where
  pub opens : Is ts at ParL
  pub deep : depth_after 0 (take at ts) ≡ 64
  pub first : (j : ℕ) → j < at → Is ts j ParL → depth_after 0 (take j ts) < 64
