-- The places that what the judge holds stands for, and what a line does to it.
use Rattle.std.specs.Prelude.{◌≡◌, ◌≤◌, ℕ, Bool, true, false, List, [], ◌∷◌, length, map, Ok, Err}
use Rattle.ln_base.specs.declared.sign.Sign.{Sign}
use Rattle.ln_algebra.specs.Sign.{sign_of}
use Rattle.ln_algebra.specs.Terms.{IsNormalOf}
use Rattle.ln_algebra.specs.Tree.{InputsBelow, Tree}
use Rattle.ln_algebra.specs.Weights.{weighted_sum}
use Rattle.ln_bound.specs.Light.{most}
use Rattle.ln_bound.specs.Value.{weights}
use Rattle.ln_tree.specs.declared.shape.Shape.{Shape}
use Rattle.ln_tree.specs.declared.shape.VarInfo.{VarInfo}
use Rattle.ln_tree.specs.Exps.{vector}
use Rattle.ln_tree.specs.Row.{InRange, Row}
use Rattle.ln_order.specs.Order.{IsOrder}
use Rattle.ln_order.specs.Places.{order_places}
use Rattle.ln_order.specs.Sites.{sites_of}
use Rattle.ln_poly.specs.Sparse.{AreBelow, Sparse, terms_of}
use Rattle.ln_stage.specs.Staged.{AreStagesOf, Staged}
use Rattle.ln_code.specs.declared.row.Row as code
use Rattle.ln_code.specs.RowOf.{row_of}
use Rattle.ln_due.specs.Due.{sign_number}
use Rattle.ln_rows.specs.Left.{Records}
use Rattle.ln_rows.specs.Record.{read_row}
use Rattle.ln_rows.specs.declared.record.RowStop.{RowStop}
use Rattle.ln_trace.specs.declared.progress.Progress.{Progress}
use Rattle.ln_trace.specs.declared.progress.Next.{Next}
use Rattle.ln_trace.specs.declared.progress.Next.TheVariants as next
use Rattle.ln_trace.specs.declared.line.TraceLine.{TraceLine}
use Rattle.ln_trace.specs.Left.{IsSpot, left_at}
use Rattle.ln_trace.specs.Next.{IsLastOf}
use Rattle.ln_trace.specs.Told.{Stood}
use Rattle.ln_trace.specs.ToldLaw.{IsLeft}
use Rattle.ln_trace.specs.Trace.{Between, Place, Rule, Subject, Within}

-- ---- what a trace is judged by
-- a predicate of this shape with this expression
abbrev pub subject_of : Shape → Tree → Subject
subject_of s e = record { sites = s.sites; vars = s.vars; tree = e }

-- the expression is over the variables of the shape, and this is its normal polynomial
pub record HasPoly (s : Shape) (e : Tree) (f : Sparse) : Type 0 where
  pub inputs : InputsBelow (length s.vars) e
  pub normal : IsNormalOf (length s.vars) e (terms_of (length s.vars) f)

-- a polynomial over the variables of the shape, none of whose derivatives is too large on a row in range, with its stages
pub record IsCase (s : Shape) (f : Sparse) (st : Staged) : Type 0 where
  pub below : AreBelow (length s.vars) f
  pub light : weighted_sum (weights s.vars) (terms_of (length s.vars) f) ≤ most
  pub stages : AreStagesOf s.sites s.vars f st

-- ---- places
-- the row that is held is in range, its order is held with it, and a place in the list of that order
pub record IsAtRow (s : Shape) (st : Staged) (d : Progress) : Type 0 where
  pub range : InRange s.sites s.vars (row_of s.sites s.vars d.row)
  pub order : IsOrder (row_of s.sites s.vars d.row).index (order_places d.order)
  pub spot : IsSpot st (order_places d.order) d.spot

-- so it is while a row is open
abbrev pub Holds : Shape → Staged → Progress → Type 0
Holds s st d = d.inside ≡ true → IsAtRow s st d

-- it is the sign of the last value
abbrev pub IsSignOfLast : Sign → Stood → Type 0
IsSignOfLast t [] = Unit {0}
IsSignOfLast t (p ∷ stood) = sign_number t ≡ sign_of p.1

-- the row is held, with the vector that stood last, the sign of its value, and where the members begin that haven't stood
pub record IsInRow (s : Shape) (e : Tree) (st : Staged) (d : Progress) (row : Row) (stood : Stood) : Type 0 where
  pub held : row_of s.sites s.vars d.row ≡ row
  pub last : IsLastOf (length s.vars) d.last.exps d.last.zero stood
  pub sign : IsSignOfLast d.sign stood
  pub left : IsLeft (length s.vars) (sites_of s.vars (order_places d.order)) e stood
      (map (vector (length s.vars)) (left_at st (order_places d.order) d.spot))

-- what is held stands for a place with these records to come
abbrev pub IsHere : Shape → Tree → Staged → Records → Progress → Place → Type 0
IsHere s e st rows d (Between seen left) = (d.inside ≡ false) × (d.seen ≡ seen) × (rows ≡ left)
IsHere s e st rows d (Within seen left row stood) =
    (d.inside ≡ true) × (d.seen ≡ seen) × (rows ≡ left) × IsInRow s e st d row stood

-- ---- what a line does
-- it leads to a place that the state of the judge stands for, or nowhere
abbrev pub PlaceStep : Shape → Tree → Staged → Place → TraceLine → Bool → Records → Progress → Type 0
PlaceStep s e st here line true rows d = (q : Place) × Rule (subject_of s e) here line q × IsHere s e st rows d q
PlaceStep s e st here line false rows d = (q : Place) → Rule (subject_of s e) here line q → ⊥

-- what a call on a line has to say, of each expression with this polynomial and each place that the state of the judge stood for
pub record Step (s : Shape) (f : Sparse) (st : Staged) (old : Records) (before : Progress) (line : TraceLine) (ok : Bool)
    (rows : Records) (d : Progress) : Type 0 where
  pub holds : ok ≡ true → Holds s st d
  pub gone : (e : Tree) (here : Place) → HasPoly s e f → IsHere s e st old before here → PlaceStep s e st here line ok rows d

-- ---- the next record
-- there is none; or it is taken, and is invalid; or it is this row, which is in range
abbrev pub IsNextOf : ℕ → List VarInfo → Next → Records → Records → code.Row → Type 0
IsNextOf sites vars next.Nothing old rows r = old ≡ []
IsNextOf sites vars next.Fault old rows r =
    (fields : List (List ℕ)) × (old ≡ fields ∷ rows) × (stop : RowStop) × (read_row sites vars fields ≡ Err stop)
IsNextOf sites vars next.Read old rows r = (fields : List (List ℕ)) × (old ≡ fields ∷ rows)
    × (read_row sites vars fields ≡ Ok (row_of sites vars r)) × InRange sites vars (row_of sites vars r)
