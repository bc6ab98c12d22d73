-- States what decides a row on which the value of a predicate isn't 0, and by how much work.
use Rattle.std.specs.Prelude.{◌≡◌, ◌≢◌, ℕ, ℤ, pos, []}
use Rattle.ln_base.specs.declared.sign.Sign.{Sign}
use Rattle.ln_algebra.specs.Orders.{Rank}
use Rattle.ln_algebra.specs.Sign.{sign_of}
use Rattle.ln_tree.specs.declared.shape.Shape.{Shape}
use Rattle.ln_tree.specs.Row.{InRange, Row, values}
use Rattle.ln_tree.specs.Table.{PredOf}
use Rattle.ln_bound.specs.Value.{value}
use Rattle.ln_code.specs.declared.verdict.Verdict.{Verdict}
use Rattle.ln_code.specs.declared.verdict.By.{By}
use Rattle.ln_code.specs.declared.verdict.By.TheVariants.{Filter, Stage}
use Rattle.ln_due.specs.Due.{Decided, Filtering, NoFilter, Undecided, sign_number}
use Rattle.ln_compile.specs.Accepted.{root_of}
use Rattle.ln_compile.specs.Filtered.{Does, IsDueIn}

-- the value of the predicate's expression on the row, with no infinitesimal added
abbrev pub plain_value : PredOf → Row → ℤ
plain_value p row = value (values row.values) [] (root_of p)

-- what decides a row, with this many calls and operations in 128 bits, by what the filter does on it: the filter, by one call and nothing in
-- 128 bits; or the first stage, block 0, by its call alone where there is no filter, and after the filter's call where there is one
abbrev pub Takes : Filtering → By → ℕ → ℕ → Type 0
Takes NoFilter by calls wide = (by ≡ Stage 0) × (calls ≡ 1)
Takes Decided by calls wide = (by ≡ Filter) × (calls ≡ 1) × (wide ≡ 0)
Takes Undecided by calls wide = (by ≡ Stage 0) × (calls ≡ 2)

-- the sign is that of the value, and what decides is the filter or block 0, by what the filter does
pub record IsByValue (p : PredOf) (row : Row) (sign : Sign) (by : By) (calls wide : ℕ) : Type 0 where
  pub sign_is : sign_number sign ≡ sign_of (plain_value p row)
  pub filtering : Filtering
  pub does : Does p row filtering
  pub takes : Takes filtering by calls wide

-- so a verdict comes
abbrev pub IsVerdictByValue : PredOf → Row → Verdict → Type 0
IsVerdictByValue p row v = IsByValue p row v.sign v.by v.calls v.wide

-- where the value on a row in range of a predicate over the variables of a shape isn't 0, so the required verdict comes, in either order of
-- infinitesimals
abbrev pub ValuesDecide : Type 0
ValuesDecide = (rank : Rank) (s : Shape) (p : PredOf) (row : Row) (v : Verdict) → p.vars ≡ s.vars → p.sites ≡ s.sites →
    InRange p.sites p.vars row → plain_value p row ≢ pos 0 → IsDueIn rank p row v → IsVerdictByValue p row v
