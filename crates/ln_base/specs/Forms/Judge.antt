-- Defines the first line whose rule fails, where each line leads from a place to another by its rule.
use Rattle.std.specs.Prelude.{◌≡◌, ℕ, ◌+◌, ◌≤◌, List, [], ◌∷◌, length, take, drop}

-- what lines are judged by: the rule of a line at a place, and what is so where the lines end at a place and may not
pub record Judge (P L : Type 0) : Type 1 where
  pub Rule : P → L → P → Type 0
  pub Lacks : P → Type 0

module _ {P L : Type 0} (J : Judge P L) where
  -- these lines lead from one place to another
  abbrev pub Go : P → List L → P → Type 0
  Go here [] q = q ≡ here
  Go here (l ∷ lines) q = (t : P) × J.Rule here l t × Go t lines q

  -- the next line leads nowhere; or the lines end where they may not
  abbrev pub FailsAt : P → List L → Type 0
  FailsAt here [] = J.Lacks here
  FailsAt here (l ∷ lines) = (q : P) → J.Rule here l q → ⊥

-- the first line that fails. Lines are counted from 1, and these come after the first one: so the line after `at` of them is number at + 2
pub record IsFirstFault {P L : Type 0} (J : Judge P L) (start : P) (lines : List L) (number : ℕ) : Type 0 where
  pub at : ℕ
  pub line : number ≡ at + 2
  pub within : at ≤ length lines
  pub here : P
  pub good : Go J start (take at lines) here
  pub fails : FailsAt J here (drop at lines)
