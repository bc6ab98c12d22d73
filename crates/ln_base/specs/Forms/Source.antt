-- Defines how lines are taken one after the other, of what has lines left, a number for the next of them, and a size.
use Rattle.std.specs.Prelude.{◌≡◌, ℕ, ◌+◌, ◌<◌, List, [], ◌∷◌, Option, Some, None}

module _ {S T L : Type 0} (line : T → L) (left : S → List L → Type 0) (next size : S → ℕ) where
  -- this is the first of the lines that were left, and the others are left
  pub record TakesOne (u : S) (t : T) (w : S) : Type 0 where
    pub goes_on : (ls : List L) → left u ls → (behind : List L) × (ls ≡ line t ∷ behind) × left w behind
    pub number : next w ≡ next u + 1
    pub smaller : size w < size u

  -- the first line is taken if there is one; else none was left
  abbrev pub Takes : S → Option T → S → Type 0
  Takes u None w = ((ls : List L) → left u ls → ls ≡ []) × (next w ≡ next u)
  Takes u (Some t) w = TakesOne u t w
