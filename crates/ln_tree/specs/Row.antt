-- Defines rows, and which of them are in the range of a predicate.
use Rattle.std.specs.Prelude.{◌≡◌, ℕ, ◌^◌, ◌-◌, ℤ, pos, ◌≤ℤ◌, List, [], ◌∷◌, length, slice_index_or, All, AllPairs, ◌≢◌}
use Rattle.ln_tree.specs.declared.shape.VarInfo.{VarInfo}

-- an index for each site, by place, and a value for each variable, by number
pub record Row : Type 0 where
  pub index : List ℤ
  pub values : List ℤ

-- each value is in the range of its variable
abbrev pub AreWithin : List VarInfo → List ℤ → Type 0
AreWithin [] [] = Unit {0}
AreWithin [] (z ∷ zs) = ⊥
AreWithin (i ∷ is) [] = ⊥
AreWithin (i ∷ is) (z ∷ zs) = (i.lo ≤ℤ z) × (z ≤ℤ i.hi) × AreWithin is zs

-- the row is in range: each index is from 0 to 2^63 - 1, each value in its declared range, and the indices differ
pub record InRange (sites : ℕ) (vars : List VarInfo) (r : Row) : Type 0 where
  pub size : length r.index ≡ sites
  pub indices : All (λ z. (pos 0 ≤ℤ z) × (z ≤ℤ pos (2 ^ 63 - 1))) r.index
  pub differ : AllPairs (λ y z. y ≢ z) r.index
  pub values : AreWithin vars r.values

-- the values of a row, by variable number
abbrev pub values : List ℤ → ℕ → ℤ
values zs v = slice_index_or zs v (pos 0)
