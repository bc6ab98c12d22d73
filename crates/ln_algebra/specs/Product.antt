-- The sign of a product of several expressions over the same variables.
use Rattle.std.specs.Prelude.{◌≡◌, ℕ, ◌⊎◌, ℤ, pos, ◌*ℤ◌, List, [], ◌∷◌}
use Rattle.ln_algebra.specs.Earlier.{Sites}
use Rattle.ln_algebra.specs.Sign.{IsFirstIn, IsSignIn}
use Rattle.ln_algebra.specs.Tree.{Tree}

-- Each expression has its first vector at the same place of the list.
abbrev pub AreFirsts : (List ℕ → List ℕ → Type 0) → ℕ → Sites → (ℕ → ℤ) → List Tree → List (List ℕ) → Type 0
AreFirsts before n sites x [] [] = Unit {0}
AreFirsts before n sites x [] (a ∷ as') = ⊥
AreFirsts before n sites x (e ∷ es) [] = ⊥
AreFirsts before n sites x (e ∷ es) (a ∷ as') = IsFirstIn before n sites x e a × AreFirsts before n sites x es as'

-- Each expression has the sign at the same place of the list.
abbrev pub AreSigns : (List ℕ → List ℕ → Type 0) → ℕ → Sites → (ℕ → ℤ) → List Tree → List ℤ → Type 0
AreSigns before n sites x [] [] = Unit {0}
AreSigns before n sites x [] (s ∷ ss) = ⊥
AreSigns before n sites x (e ∷ es) [] = ⊥
AreSigns before n sites x (e ∷ es) (s ∷ ss) = IsSignIn before n sites x e s × AreSigns before n sites x es ss

-- Some expression of the list has no first vector.
abbrev pub OneLacksFirst : (List ℕ → List ℕ → Type 0) → ℕ → Sites → (ℕ → ℤ) → List Tree → Type 0
OneLacksFirst before n sites x [] = ⊥
OneLacksFirst before n sites x (e ∷ es) = ((a : List ℕ) → IsFirstIn before n sites x e a → ⊥) ⊎ OneLacksFirst before n sites x es

-- The product of several numbers.
abbrev pub multiplied_numbers : List ℤ → ℤ
multiplied_numbers [] = pos 1
multiplied_numbers (z ∷ zs) = z *ℤ multiplied_numbers zs

-- Some number of the list is 0.
abbrev pub OneIsZero : List ℤ → Type 0
OneIsZero [] = ⊥
OneIsZero (z ∷ zs) = (z ≡ pos 0) ⊎ OneIsZero zs
