-- Defines the first line at which a text stops being of a form, where the form is told by all texts that are the lines of one.
use Rattle.std.specs.Prelude.{◌≡◌, ℕ, ◌+◌, ◌<◌, ◌≤◌, List, length, take}
use Rattle.ln_base.specs.Lines.{lines}
use Rattle.ln_base.specs.Prefixes.{IsPrefixOf}

-- line `at`, from 1, is the first at which the lines so far are no prefix of a text of the form; where all lines are one and the bytes are
-- no such text, it is one more than there are lines
pub record IsFaultOf (IsWhole : List (List ℕ) → Type 0) (bytes : List ℕ) (at : ℕ) : Type 0 where
  pub before : ℕ
  pub number : at ≡ before + 1
  pub within : before ≤ length (lines bytes)
  pub front : IsPrefixOf IsWhole (take before (lines bytes))
  pub refused : before < length (lines bytes) → IsPrefixOf IsWhole (take at (lines bytes)) → ⊥
  pub unfinished : before ≡ length (lines bytes) → IsWhole (lines bytes) → ⊥
