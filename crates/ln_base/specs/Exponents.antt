-- Exponents of variables as words: of listings and of traces.
use Rattle.std.specs.Prelude.{ℕ, ◌<◌, ◌≤◌, List, [], ◌∷◌, ◌++◌, decimal}

-- V^E
abbrev pub exponent_word : ℕ × ℕ → List ℕ
exponent_word p = decimal p.0 ++ 94 ∷ decimal p.1

-- V is at most 167, E from 1 to 127
abbrev pub IsExponent : ℕ × ℕ → Type 0
IsExponent p = (p.0 ≤ 167) × (0 < p.1) × (p.1 ≤ 127)

-- each of a list
abbrev pub Each : {A : Type 0} → (A → Type 0) → List A → Type 0
Each P [] = Unit {0}
Each P (x ∷ xs) = P x × Each P xs
