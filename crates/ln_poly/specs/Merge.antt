-- Terms, each a key and a factor, in the order of their keys, and merged.
use Rattle.std.specs.Prelude.{◌≡◌, ◌≢◌, ℕ, ◌+◌, ℤ, pos, ◌+ℤ◌, unsigned_abs, Bool, List, [], ◌∷◌, if◌then◌else◌}
use Rattle.std.specs.List.{AllByRecursion}
use Rattle.ln_algebra.specs.Vector.{sum_over}

-- the sum of the factors of the terms whose keys pass a test
abbrev pub passing : {K : Type 0} → (K → Bool) → List (K × ℤ) → ℤ
passing test f = sum_over (λ t. if test t.0 then t.1 else pos 0) f

-- the sum of the absolute factors
abbrev pub weight_of : {K : Type 0} → List (K × ℤ) → ℕ
weight_of [] = 0
weight_of (t ∷ f) = unsigned_abs t.1 + weight_of f

-- no factor is 0
abbrev pub HaveFactors : {K : Type 0} → List (K × ℤ) → Type 0
HaveFactors {K} f = AllByRecursion (λ (t : K × ℤ). t.1 ≢ pos 0) f

-- what holds of each key
abbrev pub AllKeys : {K : Type 0} → (K → Type 0) → List (K × ℤ) → Type 0
AllKeys {K} P f = AllByRecursion (λ (t : K × ℤ). P t.0) f

-- each key is before those after it
abbrev pub AreInOrder : {K : Type 0} → (K → K → Type 0) → List (K × ℤ) → Type 0
AreInOrder Before [] = Unit {0}
AreInOrder Before (t ∷ f) = AllKeys (Before t.0) f × AreInOrder Before f

-- the terms of both lists, merged by their keys: the factors of like ones are added, zeros are left out
pub data IsMerge {K : Type 0} (Before : K → K → Type 0) : List (K × ℤ) → List (K × ℤ) → List (K × ℤ) → Type 0 where
  left_over : (f : List (K × ℤ)) → IsMerge Before f [] f
  right_over : (g : List (K × ℤ)) → IsMerge Before [] g g
  first : (s t : K × ℤ) (f g h : List (K × ℤ)) → Before s.0 t.0 → IsMerge Before f (t ∷ g) h → IsMerge Before (s ∷ f) (t ∷ g) (s ∷ h)
  second : (s t : K × ℤ) (f g h : List (K × ℤ)) → Before t.0 s.0 → IsMerge Before (s ∷ f) g h → IsMerge Before (s ∷ f) (t ∷ g) (t ∷ h)
  both : (s t : K × ℤ) (f g h : List (K × ℤ)) → s.0 ≡ t.0 → s.1 +ℤ t.1 ≢ pos 0 → IsMerge Before f g h
      → IsMerge Before (s ∷ f) (t ∷ g) ((s.0, s.1 +ℤ t.1) ∷ h)
  neither : (s t : K × ℤ) (f g h : List (K × ℤ)) → s.0 ≡ t.0 → s.1 +ℤ t.1 ≡ pos 0 → IsMerge Before f g h → IsMerge Before (s ∷ f) (t ∷ g) h
