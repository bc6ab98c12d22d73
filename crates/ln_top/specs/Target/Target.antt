-- A predicate of a source as it is run, in an order of infinitesimals.
use Rattle.std.specs.Prelude.{ℕ, List}
use Rattle.ln_algebra.specs.Orders.{BySmallest, ByDegree, Rank}
use Rattle.ln_tree.specs.declared.pred.Pred.{Pred}
use Rattle.ln_tree.specs.Row.{InRange, Row}
use Rattle.ln_tree.specs.Table.{PredOf, pred_of}
use Rattle.ln_code.specs.declared.row.Row as code
use Rattle.ln_code.specs.declared.verdict.Verdict.{Verdict}
use Rattle.ln_code.specs.Kept.{IsProgram}
use Rattle.ln_code.specs.Part.{Part}
use Rattle.ln_code.specs.RowOf.{row_of}
use Rattle.ln_code.specs.Verdict.{IsVerdict}
use Rattle.ln_compile.specs.Filtered.{AnswersFor, IsDueIn}
use Rattle.ln_top.specs.declared.target.Order.{Order}
use Rattle.ln_top.specs.declared.target.Order.TheVariants.{Smallest, Degree}

-- the claim holds of the predicate on each row in its declared ranges
abbrev pub OnRows : (PredOf → Row → Type 0) → PredOf → Type 0
OnRows claim p = (row : Row) → InRange p.sites p.vars row → claim p row

-- the order, the predicate, the names of its columns and its program
pub record TargetOf : Type 0 where
  pub rank : Rank
  pub pred : Pred
  pub names : List (List ℕ)
  pub program : Part

-- the order that the program's type names
abbrev pub rank_of : Order → Rank
rank_of Smallest = BySmallest
rank_of Degree = ByDegree

-- the program follows the rules and has the verdicts of the predicate in this order
pub record Belongs (rank : Rank) (pred : Pred) (program : Part) : Type 0 where
  pub kept : IsProgram program
  pub answers : AnswersFor rank (pred_of pred) program

-- what the predicate is
abbrev pub pred_in : TargetOf → PredOf
pred_in t = pred_of t.pred

-- the row of the predicate that these arrays hold
abbrev pub row_in : TargetOf → code.Row → Row
row_in t r = row_of t.pred.shape.sites t.pred.shape.vars r

-- a program of the predicate: on each row in range its machine has a verdict, so no operation leaves its certified width, and each verdict that it
-- has is one that the row requires in this order
pub record HasProgram (rank : Rank) (p : PredOf) : Type 0 where
  pub program : Part
  pub has : (row : Row) → InRange p.sites p.vars row → (v : Verdict) × IsVerdict program row v
  pub due : (row : Row) (v : Verdict) → InRange p.sites p.vars row → IsVerdict program row v → IsDueIn rank p row v
