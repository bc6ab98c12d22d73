-- A sum in place of the first polynomial.
use Rattle.std.specs.Prelude.{◌≡◌, ℕ, ℤ, ◌<◌, ◌+ℤ◌, List, [], ◌∷◌, ◌++◌, length, set, slice_index_or}
use Rattle.ln_tree.specs.Exps.{Pairs}
use Rattle.ln_poly.specs.Sparse.{Sparse}

-- the terms with the factor of t added to the one at a place
abbrev pub added_at : Sparse → ℕ → Pairs × ℤ → Sparse
added_at f i t = set f i ((slice_index_or f i t).0, (slice_index_or f i t).1 +ℤ t.1)

-- the terms of g are added to those of the first with the same exponents, which are f then; `more` has the others, in their order
pub data IsSpread (old : Sparse) : Sparse → Sparse → Sparse → Type 0 where
  begun : IsSpread old [] old []
  added : (g f more : Sparse) (t : Pairs × ℤ) (i : ℕ) → i < length f → (slice_index_or f i t).0 ≡ t.0 → IsSpread old g f more
      → IsSpread old (g ++ (t ∷ [])) (added_at f i t) more
  missed : (g f more : Sparse) (t : Pairs × ℤ) → IsSpread old g f more → IsSpread old (g ++ (t ∷ [])) f (more ++ (t ∷ []))

-- one term more
abbrev pub Spreads : Sparse → Sparse → Sparse → Sparse → Pairs × ℤ → Type 0
Spreads f' more' f more t = (old g : Sparse) → IsSpread old g f more → IsSpread old (g ++ (t ∷ [])) f' more'
