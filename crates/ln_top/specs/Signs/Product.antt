-- `product FILE NAME NAME.. ROWS`: a line for each record after the header, with the sign of the product and each factor's decider.
use Rattle.std.specs.Prelude.{◌≡◌, ℕ, List, [], All, codes, None, Result}
use Rattle.ln_algebra.specs.Orders.{BySmallest}
use Rattle.ln_algebra.specs.Product.{multiplied_numbers}
use Rattle.ln_tree.specs.Table.{PredOf}
use Rattle.ln_due.specs.Due.{sign_number}
use Rattle.ln_factor.specs.Factors.{numbers_of}
use Rattle.ln_rows.specs.declared.record.RowStop.{RowStop}
use Rattle.ln_top.specs.declared.frame.asked.Asked.TheVariants.{SameArgs}
pub use Rattle.ln_top.specs.Target.Factors.{AreDue}
use Rattle.ln_top.specs.Target.Line.{SaysOf}
pub use Rattle.ln_top.specs.Target.Line.{Multiplied, deciders_after, product_text}
use Rattle.ln_top.specs.Target.Target.{HasProgram}
use Rattle.ln_top.specs.Frame.Said.{Said, line}
use Rattle.ln_top.specs.Frame.Given.{Given}
use Rattle.ln_top.specs.Frame.Work.{Work, work_by}
use Rattle.ln_top.specs.Frame.Signature.{Signature}
use Rattle.ln_top.specs.Signs.Rows.{LineOf, RowsPart, RowsSaid, SaysLine, rows_work}

-- the sign is the product of the verdicts' signs
abbrev pub IsMultiplied : Multiplied → Type 0
IsMultiplied m = sign_number m.sign ≡ multiplied_numbers (numbers_of m.verdicts)

-- the result of the factors on a record, by the first predicate's columns: the sign of their product and their verdicts on its
-- row, or why the record is invalid
abbrev pub SaysProduct : PredOf → List PredOf → List (List ℕ) → Result Multiplied RowStop → Type 0
SaysProduct p ps = SaysOf (λ row m. AreDue ps row m.verdicts × IsMultiplied m) p

-- the line of a record of a product of these predicates; watchers are shown nothing
abbrev pub ProductLine : List PredOf → LineOf
ProductLine ps p names number fields = SaysLine (SaysProduct p ps fields) (λ said. None) (λ said. line (product_text names said))

-- what is required: nothing comes to Err but the error line of a wrong header, and each factor has a program
abbrev pub ProductSaid : Given → Said → Type 0
ProductSaid g said = RowsSaid [] (ProductLine g.preds) [] g said × All (HasProgram BySmallest) g.preds

-- the part that may be left when memory runs out
abbrev pub ProductPart : Given → List ℕ → List ℕ → Type 0
ProductPart g = RowsPart [] (ProductLine g.preds) [] g

-- the signature of `product`
abbrev pub product_signature : Signature
product_signature = record {
  word = codes "product";
  form = record { least = 2; most = 8; files = 1 };
  suits = SameArgs;
}

-- the work of `product`
abbrev pub product_work : Work
product_work = work_by (All (HasProgram BySmallest)) (rows_work [] ProductLine (λ boxes. []))
