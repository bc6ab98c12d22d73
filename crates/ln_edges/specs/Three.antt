-- Predicates of exactly three sites of one type.
use Rattle.std.specs.Prelude.{◌≡◌, ℕ, ◌≤◌, true, List, [], ◌∷◌, length, slice_get, Some}
use Rattle.ln_tree.specs.Table.{PredOf, SiteArg, SiteOf, TableOf}
use Rattle.ln_tree.specs.Whole.{is_whole}
use Rattle.ln_edges.specs.Edges.{three_of}

-- the arguments of the predicate are exactly three sites of this type of the table
pub record IsOfThree (t : TableOf) (p : PredOf) (type : SiteOf) : Type 0 where
  pub kind : ℕ
  pub first : List ℕ
  pub second : List ℕ
  pub third : List ℕ
  pub args : p.args ≡ SiteArg first kind ∷ SiteArg second kind ∷ SiteArg third kind ∷ []
  pub there : slice_get t.sites kind ≡ Some type

-- then its variables are the coordinates of the type three times, in the type's ranges
abbrev pub TablesGiveThree : Type 0
TablesGiveThree =
    (t : TableOf) (i : ℕ) (p : PredOf) (type : SiteOf) → is_whole t ≡ true → slice_get t.preds i ≡ Some p
    → IsOfThree t p type
    → (p.sites ≡ 3) × (p.vars ≡ three_of type.coords) × (length type.coords ≤ 32)
