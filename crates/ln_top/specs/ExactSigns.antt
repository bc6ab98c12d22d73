-- C without filters: what is promised of its bytes.
use Rattle.std.specs.Prelude.{◌≡◌, ℕ, List, Some}
use Rattle.ln_base.specs.declared.sign.Sign.{Sign}
use Rattle.ln_algebra.specs.Orders.{BySmallest}
use Rattle.ln_tree.specs.Row.{Row}
use Rattle.ln_tree.specs.Table.{PredOf}
use Rattle.ln_due.specs.Due.{sign_number}
use Rattle.ln_csyn.specs.Tree.{Fun}
use Rattle.ln_csyn.specs.Meaning.{CCall, Counts, Signed}
use Rattle.ln_cemit.specs.Names.{call_name}
use Rattle.ln_top.specs.Perturbed.{IsSignOn, NotZeroWithoutParams}

-- on this row the call of the function of this name has a meaning: the perturbed sign of the predicate, which without params isn't 0
pub record MeansSign (file : List Fun) (name : List ℕ) (p : PredOf) (row : Row) : Type 0 where
  pub sign : Sign
  pub counts : Counts
  pub called : CCall file name row.index row.values ≡ Some (Signed (sign_number sign) counts)
  pub perturbed : IsSignOn BySmallest p row sign
  pub never_zero : NotZeroWithoutParams p sign

-- so that of `ln_NAME`
abbrev pub CallsSign : List Fun → PredOf → Row → Type 0
CallsSign file p row = MeansSign file (call_name p.name) p row
