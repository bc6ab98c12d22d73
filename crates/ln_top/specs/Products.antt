-- The signs that `product` prints are the perturbed signs of the products.
use Rattle.std.specs.Prelude.{◌≡◌, ◌≢◌, ◌↔◌, ℕ, List, [], ◌∷◌, ◌++◌, All, length, map, slice_get, Option, Some, Ok}
use Rattle.ln_base.specs.Outside.{Shelf, Shown}
use Rattle.ln_base.specs.declared.sign.Sign.{Sign}
use Rattle.ln_base.specs.declared.sign.Sign.TheVariants.{Zero}
use Rattle.ln_algebra.specs.Earlier.{Earlier}
use Rattle.ln_algebra.specs.Orders.{BySmallest}
use Rattle.ln_algebra.specs.Product.{AreFirsts}
use Rattle.ln_algebra.specs.Sign.{IsFirst, IsPerturbedSign}
use Rattle.ln_algebra.specs.Tree.{Tree, multiplied}
use Rattle.ln_algebra.specs.Vector.{sum_of}
use Rattle.ln_tree.specs.Row.{InRange, Row}
use Rattle.ln_tree.specs.Table.{PredOf}
use Rattle.ln_bound.specs.Value.{values}
use Rattle.ln_order.specs.Sites.{row_sites}
use Rattle.ln_code.specs.declared.verdict.Verdict.{Verdict}
use Rattle.ln_due.specs.Due.{sign_number}
use Rattle.ln_compile.specs.Accepted.{root_of}
use Rattle.ln_rows.specs.Left.{Records}
use Rattle.ln_rows.specs.Record.{read_row}
use Rattle.ln_top.specs.declared.words.Command.TheVariants.{Product}
use Rattle.ln_top.specs.Frame.Said.{line, put_both}
use Rattle.ln_top.specs.Headline.{IsOneLine}
use Rattle.ln_top.specs.Perturbed.{IsSignOn}
use Rattle.ln_top.specs.Steps.{WhereGiven}
use Rattle.ln_top.specs.Target.Line.{sign_text}
use Rattle.ln_top.specs.Target.Target.{HasProgram}
use Rattle.ln_top.specs.Signs.Product.{AreDue, deciders_after}
use Rattle.ln_top.specs.Signs.Run.{HasRecords}

-- the expression that multiplies the expressions of predicates, each with its lets in place of their names
abbrev pub product_of : PredOf → List PredOf → Tree
product_of p others = multiplied (root_of p) (map root_of others)

-- the perturbed sign of one of these predicates on the row is 0
pub record OneIsZeroOn (preds : List PredOf) (row : Row) : Type 0 where
  pub k : ℕ
  pub pred : PredOf
  pub there : slice_get preds k ≡ Some pred
  pub zero : IsSignOn BySmallest pred row Zero

-- the first vector of the product on the row is the sum of the first vectors of the factors, of which each has one
pub record HasSummedFirsts (p : PredOf) (others : List PredOf) (row : Row) : Type 0 where
  pub firsts : List (List ℕ)
  pub are : AreFirsts (Earlier (row_sites p.vars row.index)) (length p.vars) (row_sites p.vars row.index) (values row.values)
      (map root_of (p ∷ others)) firsts
  pub sum : IsFirst (length p.vars) (row_sites p.vars row.index) (values row.values) (product_of p others)
      (sum_of (length p.vars) firsts)

-- the line begins with the perturbed sign of the product of the predicates on the row, which is in range, and goes on with what decides
-- each of them. It is 0 exactly where a factor's sign is 0, and else that of the coefficient at the sum of the first vectors
pub record HasProductSign (p : PredOf) (others : List PredOf) (row : Row) (text : List ℕ) : Type 0 where
  pub range : InRange p.sites p.vars row
  pub sign : Sign
  pub perturbed : IsPerturbedSign (length p.vars) (row_sites p.vars row.index) (values row.values) (product_of p others)
      (sign_number sign)
  pub zero : (sign ≡ Zero) ↔ OneIsZeroOn (p ∷ others) row
  pub firsts : sign ≢ Zero → HasSummedFirsts p others row
  pub verdicts : List Verdict
  pub due : AreDue (p ∷ others) row verdicts
  pub text_is : text ≡ line (sign_text sign ++ deciders_after 32 verdicts)

-- one line after the other, exactly one for each record: that of a row has the sign of the product
pub data HaveProductSigns (p : PredOf) (others : List PredOf) : Records → List ℕ → Type 0 where
  none : HaveProductSigns p others [] []
  more : {fields : List (List ℕ)} {rest : Records} (text texts : List ℕ) → IsOneLine text
      → ((row : Row) → read_row p.sites p.vars fields ≡ Ok row → HasProductSign p others row text)
      → HaveProductSigns p others rest texts → HaveProductSigns p others (fields ∷ rest) (text ++ texts)

-- such lines came to Out, and nothing to Err, by a program of each factor, no operation of which leaves its width
pub record PutProducts (p : PredOf) (others : List PredOf) (records : Records) (was now : Option Shown) : Type 0 where
  pub lines : List ℕ
  pub signs : HaveProductSigns p others records lines
  pub programs : All (HasProgram BySmallest) (p ∷ others)
  pub shown : now ≡ put_both lines [] was

-- where the words are `product FILE NAME NAME.. ROWS`, and the files contain predicates with the same arguments and records after the right
-- header, their lines came to Out
abbrev pub ProductsArePerturbed : List (List ℕ) → Shelf → Option Shown → Option Shown → Type 0
ProductsArePerturbed words shelf was now = WhereGiven words shelf Product (λ g. (p : PredOf) (others : List PredOf)
    (names : List (List ℕ)) (records : Records) → g.preds ≡ p ∷ others → HasRecords g p names (names ∷ records)
    → PutProducts p others records was now)
