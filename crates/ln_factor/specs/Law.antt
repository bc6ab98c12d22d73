-- The first vector of a product on a row, its sign, and when that is 0.
use Rattle.std.specs.Prelude.{◌≡◌, ◌↔◌, ℕ, ℤ, pos, List, ◌∷◌, length}
use Rattle.ln_algebra.specs.Orders.{Before, Rank}
use Rattle.ln_algebra.specs.Product.{AreFirsts, AreSigns, OneIsZero, multiplied_numbers}
use Rattle.ln_algebra.specs.Tree.{Tree, multiplied}
use Rattle.ln_algebra.specs.Vector.{sum_of}
use Rattle.ln_tree.specs.declared.shape.Shape.{Shape}
use Rattle.ln_tree.specs.declared.shape.VarInfo.{VarInfo}
use Rattle.ln_tree.specs.Row.{InRange, Row, values}
use Rattle.ln_order.specs.Rows.{RowFirst, RowSign}
use Rattle.ln_order.specs.Sites.{row_sites}

-- each expression has its first vector on the row at the same place of the list
abbrev pub AreRowFirsts : Rank → List VarInfo → List Tree → Row → List (List ℕ) → Type 0
AreRowFirsts rank vars es row as' =
    AreFirsts (Before rank (row_sites vars row.index)) (length vars) (row_sites vars row.index) (values row.values) es as'

-- each expression has its perturbed sign on the row at the same place of the list
abbrev pub AreRowSigns : Rank → List VarInfo → List Tree → Row → List ℤ → Type 0
AreRowSigns rank vars es row zs =
    AreSigns (Before rank (row_sites vars row.index)) (length vars) (row_sites vars row.index) (values row.values) es zs

-- on a row in range the sum of the factors' first vectors is the first vector of the product
abbrev pub FirstsAdd : Type 0
FirstsAdd =
    (rank : Rank) (s : Shape) (row : Row) (e : Tree) (es : List Tree) (as' : List (List ℕ)) → InRange s.sites s.vars row →
    AreRowFirsts rank s.vars (e ∷ es) row as' → RowFirst rank s.vars (multiplied e es) row (sum_of (length s.vars) as')

-- and the product has no other
abbrev pub FirstsAreSums : Type 0
FirstsAreSums =
    (rank : Rank) (s : Shape) (row : Row) (e : Tree) (es : List Tree) (a : List ℕ) → InRange s.sites s.vars row →
    RowFirst rank s.vars (multiplied e es) row a →
    (as' : List (List ℕ)) × AreRowFirsts rank s.vars (e ∷ es) row as' × (a ≡ sum_of (length s.vars) as')

-- on a row in range the product of the factors' perturbed signs is the perturbed sign of the product
abbrev pub SignsAreProducts : Type 0
SignsAreProducts =
    (rank : Rank) (s : Shape) (row : Row) (e : Tree) (es : List Tree) (zs : List ℤ) → InRange s.sites s.vars row →
    AreRowSigns rank s.vars (e ∷ es) row zs → RowSign rank s.vars (multiplied e es) row (multiplied_numbers zs)

-- a product of signs is 0 exactly where one of them is
abbrev pub ZeroWhereOneIs : Type 0
ZeroWhereOneIs = (zs : List ℤ) → (multiplied_numbers zs ≡ pos 0) ↔ OneIsZero zs
