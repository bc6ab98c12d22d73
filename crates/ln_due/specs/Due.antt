-- The verdict that is required on a row.
-- Source: the staged evaluation of Simulation of Simplicity (Edelsbrunner and Mücke 1990): the first coefficient that isn't 0 decides.
use Rattle.std.specs.Prelude.{◌≡◌, ℕ, ◌+◌, ◌⊎◌, ℤ, pos, negsuc, List, [], ◌∷◌, length}
use Rattle.ln_base.specs.declared.sign.Sign.{Sign}
use Rattle.ln_base.specs.declared.sign.Sign.TheVariants.{Minus, Zero, Plus}
use Rattle.ln_algebra.specs.Earlier.{Sites}
use Rattle.ln_algebra.specs.Orders.{Before, Rank}
use Rattle.ln_algebra.specs.Sign.{IsFirstIn}
use Rattle.ln_algebra.specs.Tree.{Tree}
use Rattle.ln_tree.specs.declared.shape.VarInfo.{VarInfo}
use Rattle.ln_tree.specs.Row.{Row, values}
use Rattle.ln_order.specs.Rows.{RowSign, RowStages}
use Rattle.ln_order.specs.Sites.{row_sites}
use Rattle.ln_code.specs.declared.verdict.Verdict.{Verdict}
use Rattle.ln_code.specs.declared.verdict.By.{By}
use Rattle.ln_code.specs.declared.verdict.By.TheVariants.{Filter, Stage, Nothing}

-- a sign as a number: -1, 0 or 1
abbrev pub sign_number : Sign → ℤ
sign_number Minus = negsuc 0
sign_number Zero = pos 0
sign_number Plus = pos 1

-- the position of a in a list: how many members are before a in the order
abbrev pub IsPositionIn : (List ℕ → List ℕ → Type 0) → List (List ℕ) → List ℕ → ℕ → Type 0
IsPositionIn before [] a place = place ≡ 0
IsPositionIn before (b ∷ list) a place =
    (before b a × ((k : ℕ) × IsPositionIn before list a k × (place ≡ k + 1)))
    ⊎ ((before b a → ⊥) × IsPositionIn before list a place)

-- what decides by the stages of this list, and how many blocks are entered for it: the stage at the position of the first vector,
-- and the blocks up to it; where there is no first vector nothing, and all blocks of the list
abbrev pub IsDecidedBy : (List ℕ → List ℕ → Type 0) → ℕ → Sites → (ℕ → ℤ) → Tree → List (List ℕ) → By → ℕ → Type 0
IsDecidedBy before n sites x e list Filter blocks = ⊥
IsDecidedBy before n sites x e list (Stage place) blocks =
    (a : List ℕ) × IsFirstIn before n sites x e a × IsPositionIn before list a place × (blocks ≡ place + 1)
IsDecidedBy before n sites x e list Nothing blocks = ((a : List ℕ) → IsFirstIn before n sites x e a → ⊥) × (blocks ≡ length list)

-- the same of a row, by its own indices
abbrev pub DecidesRow : Rank → List VarInfo → Tree → Row → List (List ℕ) → By → ℕ → Type 0
DecidesRow rank vars e row list by blocks =
    IsDecidedBy (Before rank (row_sites vars row.index)) (length vars) (row_sites vars row.index) (values row.values) e list by blocks

-- what the stages require on a row of these variables and this expression, after this many calls: the perturbed sign, by the row's own
-- indices; what decides in the stage list of the row's order; and the calls, one for each block that is entered
pub record IsOwedByStages (rank : Rank) (vars : List VarInfo) (e : Tree) (row : Row) (entered : ℕ) (v : Verdict) : Type 0 where
  pub sign : RowSign rank vars e row (sign_number v.sign)
  pub list : List (List ℕ)
  pub stages : RowStages rank vars e row list
  pub blocks : ℕ
  pub decided : DecidesRow rank vars e row list v.by blocks
  pub calls : v.calls ≡ entered + blocks

-- what the filter requires on a row on which it decides: the perturbed sign by one call, with no operation in 128 bits
pub record IsOwedByFilter (rank : Rank) (vars : List VarInfo) (e : Tree) (row : Row) (v : Verdict) : Type 0 where
  pub sign : RowSign rank vars e row (sign_number v.sign)
  pub by : v.by ≡ Filter
  pub calls : v.calls ≡ 1
  pub wide : v.wide ≡ 0

-- what a filter does on a row: there is none, it decides, or it leaves the row to the stages
pub data Filtering : Type 0 where
  NoFilter : Filtering
  Decided : Filtering
  Undecided : Filtering

-- the verdict that is required on a row in this order of infinitesimals, where the filter does this: the filter's, or that of the stages, after
-- the filter's call if there is one
abbrev pub Due : Rank → Filtering → List VarInfo → Tree → Row → Verdict → Type 0
Due rank NoFilter vars e row v = IsOwedByStages rank vars e row 0 v
Due rank Decided vars e row v = IsOwedByFilter rank vars e row v
Due rank Undecided vars e row v = IsOwedByStages rank vars e row 1 v
