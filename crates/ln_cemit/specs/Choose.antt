-- The function with two parameters: the order of the indices chooses the blocks that are called.
use Rattle.std.specs.Prelude.{◌≡◌, ℕ, true, List, [], ◌∷◌, Some, if◌then◌else◌, ℤ, pos}
use Rattle.ln_csyn.specs.Meaning.{Counts}
use Rattle.ln_csyn.specs.declared.tree.CType.TheVariants.{Int64}
use Rattle.ln_csyn.specs.Meaning.{Scene, Outcome, Said, is_zero, has, entered, index_at}

-- what the blocks of a list return, one after the other, where each returns a sign and makes its counts
abbrev pub first_of_signs : (ℕ → ℤ) → (ℕ → Counts → Counts) → List ℕ → Counts → Outcome
first_of_signs sign after [] k = Said (pos 0) k
first_of_signs sign after (b ∷ bs) k = if is_zero (sign b) then first_of_signs sign after bs (after b (entered k))
    else Said (sign b) (after b (entered k))

-- every index of the row is there and fits
pub record IndexGives (s : Scene) (i : ℕ) (x : ℤ) : Type 0 where
  pub there : index_at s.index i ≡ Some x
  pub fits : has Int64 x ≡ true
