-- The perturbed sign of a row, and the stage lists of an expression in all orders of the sites, in either order of infinitesimals.
-- Source: Simulation of Simplicity (Edelsbrunner and Mücke 1990); Yap's admissible orders (1990).
use Rattle.std.specs.Prelude.{◌≡◌, ◌≢◌, ℕ, ◌<◌, true, AllPairs, ℤ, List, [], length, slice_index_or}
use Rattle.ln_algebra.specs.Earlier.{IndicesDiffer}
use Rattle.ln_algebra.specs.Orders.{Before, Rank}
use Rattle.ln_algebra.specs.Sign.{IsFirstIn, IsSignIn}
use Rattle.ln_algebra.specs.Stage.{IsStageListIn}
use Rattle.ln_algebra.specs.Tree.{Tree}
use Rattle.ln_tree.specs.declared.shape.Shape.{Shape}
use Rattle.ln_tree.specs.declared.shape.VarInfo.{VarInfo}
use Rattle.ln_tree.specs.Row.{InRange, Row, values}
use Rattle.ln_tree.specs.Variables.{is_laid_out}
use Rattle.ln_order.specs.Order.{IsOrder}
use Rattle.ln_order.specs.Orders.{IsOrderOf, orders_of}
use Rattle.ln_order.specs.Sites.{row_sites, sites_of}

-- a is the first vector of e on the row: the first, by the row's own indices and in this order of infinitesimals, whose perturbed
-- coefficient isn't 0
abbrev pub RowFirst : Rank → List VarInfo → Tree → Row → List ℕ → Type 0
RowFirst rank vars e row a = IsFirstIn (Before rank (row_sites vars row.index)) (length vars) (row_sites vars row.index)
    (values row.values) e a

-- s is the perturbed sign of e on the row: that of the coefficient at the first vector, or 0 where there is none
abbrev pub RowSign : Rank → List VarInfo → Tree → Row → ℤ → Type 0
RowSign rank vars e row s = IsSignIn (Before rank (row_sites vars row.index)) (length vars) (row_sites vars row.index)
    (values row.values) e s

-- list is the stage list of e for a row's own indices
abbrev pub RowStages : Rank → List VarInfo → Tree → Row → List (List ℕ) → Type 0
RowStages rank vars e row list = IsStageListIn (Before rank (row_sites vars row.index)) (length vars) (row_sites vars row.index) e list

-- list is the stage list of e for the order of the sites with these places
abbrev pub OrderStages : Rank → List VarInfo → Tree → List ℕ → List (List ℕ) → Type 0
OrderStages rank vars e places list = IsStageListIn (Before rank (sites_of vars places)) (length vars) (sites_of vars places) e list

-- a stage list of e for each order of the sites, in the order of the orders
pub record AreStageListsOf (rank : Rank) (sites : ℕ) (vars : List VarInfo) (e : Tree) (lists : List (List (List ℕ))) : Type 0 where
  pub size : length lists ≡ length (orders_of sites)
  pub each : (j : ℕ) → j < length lists → OrderStages rank vars e (slice_index_or (orders_of sites) j []) (slice_index_or lists j [])

-- ---- laws
-- indices that differ have an order
abbrev pub OrderExists : Type 0
OrderExists = (indices : List ℤ) → AllPairs (λ y z. y ≢ z) indices → (places : List ℕ) × IsOrder indices places

-- and one alone
abbrev pub OrderIsUnique : Type 0
OrderIsUnique = (indices : List ℤ) (places others : List ℕ) → IsOrder indices places → IsOrder indices others → places ≡ others

-- the sites of an order have places of their own
abbrev pub OrdersDiffer : Type 0
OrdersDiffer = (k : ℕ) (vars : List VarInfo) (o : List ℕ) → is_laid_out k vars ≡ true → IsOrderOf k o → IndicesDiffer (sites_of vars o)

-- the sites of a row in range have indices of their own
abbrev pub RowsDiffer : Type 0
RowsDiffer = (s : Shape) (row : Row) → InRange s.sites s.vars row → IndicesDiffer (row_sites s.vars row.index)

-- the stage list of the order of a row's sites is that of the row's own indices
abbrev pub StagesAreThoseOfRows : Type 0
StagesAreThoseOfRows =
    (rank : Rank) (s : Shape) (row : Row) (places : List ℕ) (e : Tree) (list : List (List ℕ)) → InRange s.sites s.vars row →
    IsOrder row.index places →
    OrderStages rank s.vars e places list → RowStages rank s.vars e row list

-- a row in range has at most one first vector
abbrev pub RowFirstIsUnique : Type 0
RowFirstIsUnique =
    (rank : Rank) (s : Shape) (e : Tree) (row : Row) (a b : List ℕ) → InRange s.sites s.vars row →
    RowFirst rank s.vars e row a → RowFirst rank s.vars e row b → a ≡ b

-- and at most one sign
abbrev pub RowSignIsUnique : Type 0
RowSignIsUnique =
    (rank : Rank) (s : Shape) (e : Tree) (row : Row) (y z : ℤ) → InRange s.sites s.vars row →
    RowSign rank s.vars e row y → RowSign rank s.vars e row z → y ≡ z

-- and one there is
abbrev pub RowSignExists : Type 0
RowSignExists =
    (rank : Rank) (s : Shape) (e : Tree) (row : Row) → InRange s.sites s.vars row → (y : ℤ) × RowSign rank s.vars e row y
