-- The verdicts of several parts over the same variables on one row, and the sign of the product of their expressions.
use Rattle.std.specs.Prelude.{◌≡◌, List, [], ◌∷◌, map}
use Rattle.ln_algebra.specs.Orders.{Rank}
use Rattle.ln_algebra.specs.Product.{multiplied_numbers}
use Rattle.ln_algebra.specs.Terms.{Term}
use Rattle.ln_algebra.specs.Tree.{Tree, multiplied}
use Rattle.ln_tree.specs.Row.{InRange, Row}
use Rattle.ln_tree.specs.declared.shape.VarInfo.{VarInfo}
use Rattle.ln_order.specs.Rows.{RowSign}
use Rattle.ln_code.specs.Carried.{Carries, Runs}
use Rattle.ln_code.specs.Part.{Part}
use Rattle.ln_code.specs.Verdict.{IsVerdict}
use Rattle.ln_code.specs.declared.verdict.Verdict.{Verdict}
use Rattle.ln_due.specs.Due.{sign_number}

-- the part, which carries the expression e, is over these variables, and has the verdict v on the row
pub record IsAnswered (rank : Rank) (vars : List VarInfo) (row : Row) (p : Part) (e : Tree) (v : Verdict) : Type 0 where
  pub runs : Runs p
  pub polynomial : List Term
  pub carries : Carries rank p e polynomial
  pub same : p.shape.vars ≡ vars
  pub within : InRange p.shape.sites p.shape.vars row
  pub verdict : IsVerdict p row v

-- each part, by its expression and its verdict
abbrev pub AreAnswered : Rank → List VarInfo → Row → List Part → List Tree → List Verdict → Type 0
AreAnswered rank vars row [] [] [] = Unit {0}
AreAnswered rank vars row [] [] (v ∷ vs) = ⊥
AreAnswered rank vars row [] (e ∷ es) vs = ⊥
AreAnswered rank vars row (p ∷ ps) [] vs = ⊥
AreAnswered rank vars row (p ∷ ps) (e ∷ es) [] = ⊥
AreAnswered rank vars row (p ∷ ps) (e ∷ es) (v ∷ vs) = IsAnswered rank vars row p e v × AreAnswered rank vars row ps es vs

-- the product of the signs of the verdicts is the sign of the product of the expressions
abbrev pub SignsMultiply : Type 0
SignsMultiply =
    (rank : Rank) (vars : List VarInfo) (row : Row) (ps : List Part) (e : Tree) (es : List Tree) (vs : List Verdict) →
    AreAnswered rank vars row ps (e ∷ es) vs →
    RowSign rank vars (multiplied e es) row (multiplied_numbers (map (λ v. sign_number v.sign) vs))
