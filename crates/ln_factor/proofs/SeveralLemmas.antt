-- The product of the signs of the verdicts is the sign of the product of the expressions.
use Rattle.std.proofs.Common.{List, [], ◌∷◌, length, map, subst}
use Rattle.ln_algebra.proofs.Ordering.Admissible.{both-admissible}
use Rattle.ln_algebra.proofs.Ordering.Products.{product-sign}
use Rattle.ln_algebra.specs.Earlier.{IndicesDiffer}
use Rattle.ln_algebra.specs.Orders.{Before, Rank}
use Rattle.ln_algebra.specs.Product.{AreSigns}
use Rattle.ln_algebra.specs.Tree.{Tree}
use Rattle.ln_tree.specs.Row.{Row, values}
use Rattle.ln_tree.specs.declared.shape.VarInfo.{VarInfo}
use Rattle.ln_order.proofs.Signs.RowSigns.{rows-differ}
use Rattle.ln_order.specs.Rows.{RowSign}
use Rattle.ln_order.specs.Sites.{row_sites}
use Rattle.ln_code.specs.Part.{Part}
use Rattle.ln_code.specs.declared.verdict.Verdict.{Verdict}
use Rattle.ln_due.specs.Due.{sign_number}
use Rattle.ln_factor.specs.Several.{AreAnswered, IsAnswered, SignsMultiply}
use Rattle.ln_due.proofs.Verdicts.Composition.{signs-perturbed}

module _ (rank : Rank) (vars : List VarInfo) (row : Row) where
  -- one part
  one-sign : (p : Part) (e : Tree) (v : Verdict) → IsAnswered rank vars row p e v → RowSign rank vars e row (sign_number v.sign)
  one-sign p e v a =
      subst (λ (w : List VarInfo). RowSign rank w e row (sign_number v.sign)) a.same
      (signs-perturbed rank p e a.polynomial row v a.runs a.carries a.within a.verdict)

  -- its sites differ in their indices
  one-differs : (p : Part) (e : Tree) (v : Verdict) → IsAnswered rank vars row p e v → IndicesDiffer (row_sites vars row.index)
  one-differs p e v a = subst (λ (w : List VarInfo). IndicesDiffer (row_sites w row.index)) a.same (rows-differ p.shape row a.within)

  -- all parts
  all-signs : (ps : List Part) (es : List Tree) (vs : List Verdict) → AreAnswered rank vars row ps es vs
      → AreSigns (Before rank (row_sites vars row.index)) (length vars) (row_sites vars row.index) (values row.values) es (map (λ v. sign_number v.sign) vs)
  all-signs [] [] [] a = tt
  all-signs [] [] (v ∷ vs) a = absurd a
  all-signs [] (e ∷ es) vs a = absurd a
  all-signs (p ∷ ps) [] vs a = absurd a
  all-signs (p ∷ ps) (e ∷ es) [] a = absurd a
  all-signs (p ∷ ps) (e ∷ es) (v ∷ vs) a = (one-sign p e v a.0, all-signs ps es vs a.1)

-- the product of the signs
pub signs-multiply : SignsMultiply
signs-multiply rank vars row [] e es vs a = absurd a
signs-multiply rank vars row (p ∷ ps) e es [] a = absurd a
signs-multiply rank vars row (p ∷ ps) e es (v ∷ vs) a =
    product-sign (length vars) (row_sites vars row.index) (Before rank (row_sites vars row.index))
    (both-admissible rank (length vars) (row_sites vars row.index) (one-differs rank vars row p e v a.0)) (values row.values) e es
    (map (λ w. sign_number w.sign) (v ∷ vs)) (all-signs rank vars row (p ∷ ps) (e ∷ es) (v ∷ vs) a)
