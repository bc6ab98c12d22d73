-- The perturbed sign of a predicate on a row.
use Rattle.std.specs.Prelude.{◌≢◌, All, None}
use Rattle.ln_base.specs.declared.sign.Sign.{Sign}
use Rattle.ln_base.specs.declared.sign.Sign.TheVariants.{Zero}
use Rattle.ln_algebra.specs.Orders.{Rank}
use Rattle.ln_tree.specs.Row.{Row}
use Rattle.ln_tree.specs.Table.{PredOf}
use Rattle.ln_order.specs.Rows.{RowSign}
use Rattle.ln_due.specs.Due.{Decided, sign_number}
use Rattle.ln_compile.specs.Accepted.{root_of}
use Rattle.ln_compile.specs.Filtered.{Does}

-- it is the sign of the first coefficient that isn't 0, in this order of infinitesimals by the row's own indices
abbrev pub IsSignOn : Rank → PredOf → Row → Sign → Type 0
IsSignOn rank p row sign = RowSign rank p.vars (root_of p) row (sign_number sign)

-- a predicate without params has no row with the sign 0
abbrev pub NotZeroWithoutParams : PredOf → Sign → Type 0
NotZeroWithoutParams p sign = All (λ i. i.site ≢ None) p.vars → sign ≢ Zero

-- the predicate has a filter, which decides the row
abbrev pub FilterDecides : PredOf → Row → Type 0
FilterDecides p row = Does p row Decided
