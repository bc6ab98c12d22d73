-- The predicates of a product as they are run: the first, and the programs of all, each made once.
use Rattle.std.specs.Prelude.{◌≡◌, true, ℕ, ◌≤◌, ◌<◌, All, List, ◌++◌, length, slice_get, Some, Result}
use Rattle.std.specs.List.{AllZip}
use Rattle.ln_tree.specs.declared.pred.Pred.{Pred}
use Rattle.ln_tree.specs.Table.{PredOf}
use Rattle.ln_tree.specs.Row.{InRange, Row}
use Rattle.ln_code.specs.declared.row.Row as code
use Rattle.ln_code.specs.declared.scratch.Scratch.{Scratch}
use Rattle.ln_code.specs.declared.verdict.Verdict.{Verdict}
use Rattle.ln_code.specs.Kept.{IsProgram}
use Rattle.ln_code.specs.Part.{Part}
use Rattle.ln_code.specs.RowOf.{row_of}
use Rattle.ln_compile.specs.Compiled.{AreNumbered, IsProgramOf}
use Rattle.ln_compile.specs.Filtered.{IsDue}
use Rattle.ln_factor.specs.Factors.{AreMadeFor, AreOver}
use Rattle.ln_rows.specs.Record.{IsReadAs}
use Rattle.ln_rows.specs.declared.record.RowStop.{RowStop}
use Rattle.ln_top.specs.Target.Alike.{are_alike}

-- the first predicate, the names of its columns, programs of distinct predicates, and for each factor the place of its program
pub record FactorsOf : Type 0 where
  pub pred : Pred
  pub names : List (List ℕ)
  pub programs : List Part
  pub which : List ℕ

-- the factors with this first predicate, these names of columns and programs, and these places of their programs
abbrev pub factors_of : Pred → List (List ℕ) → List Part → List ℕ → FactorsOf
factors_of pred names programs which = record { pred = pred; names = names; programs = programs; which = which }

-- there are at most eight factors; each has a program that keeps the rules, over the variables of the first predicate
pub record AreFactors (t : FactorsOf) : Type 0 where
  pub places : All (λ i. i < length t.programs) t.which
  pub kept : (i : ℕ) (part : Part) → slice_get t.programs i ≡ Some part → IsProgram part
  pub over : AreOver t.pred.shape.sites t.pred.shape.vars t.programs t.which
  pub few : length t.which ≤ 8

-- the program at each of these places is that of the predicate at the same place of the list
abbrev pub AreProgramsAt : List Part → List ℕ → List PredOf → Type 0
AreProgramsAt programs = AllZip (λ i p. (part : Part) → slice_get programs i ≡ Some part → IsProgramOf p part)

-- each factor has a verdict that the row requires of it
abbrev pub AreDue : List PredOf → Row → List Verdict → Type 0
AreDue ps row = AllZip (λ p. IsDue p row) ps

-- for each factor there are a scratch, made for its program, and a verdict
pub record IsRoomFor (t : FactorsOf) (scratches : List Scratch) (verdicts : List Verdict) : Type 0 where
  pub made : AreMadeFor t.programs t.which scratches
  pub size : length verdicts ≡ length t.which
  pub few : length verdicts ≤ 8

-- these arrays hold a row in range of a predicate
abbrev pub IsInRangeOf : Pred → code.Row → Type 0
IsInRangeOf p r = InRange p.shape.sites p.shape.vars (row_of p.shape.sites p.shape.vars r)

-- what is returned for a record with these fields, and the arrays hold the row that it says
abbrev pub IsReadOf : {T : Type 0} → Pred → List (List ℕ) → Result T RowStop → code.Row → Type 0
IsReadOf p fields read r = IsReadAs p.shape.sites p.shape.vars fields read r

-- the predicates with these numbers have the same arguments
pub record HaveOneShape (table : List PredOf) (numbers : List ℕ) : Type 0 where
  pub preds : List PredOf
  pub numbered : AreNumbered table numbers preds
  pub alike : are_alike preds ≡ true

-- a program that was made for the predicate with this number
pub record IsMadeOf (table : List PredOf) (number : ℕ) (part : Part) : Type 0 where
  pub pred : PredOf
  pub there : slice_get table number ≡ Some pred
  pub carries : IsProgramOf pred part
  pub kept : IsProgram part

-- programs that were made for the predicates with these numbers
abbrev pub AreMade : List PredOf → List ℕ → List Part → Type 0
AreMade table = AllZip (IsMadeOf table)

-- each of these numbers is at its place
abbrev pub StandAt : List ℕ → List ℕ → List ℕ → Type 0
StandAt numbers = AllZip (λ k i. slice_get numbers k ≡ Some i)

-- more were added at the end
pub record Grows (old new : List ℕ) : Type 0 where
  pub more : List ℕ
  pub is : new ≡ old ++ more

-- programs of the predicates with these numbers, each made once, at these places
pub record AreMadeAt (table : List PredOf) (programs : List Part) (which wanted : List ℕ) : Type 0 where
  pub numbers : List ℕ
  pub made : AreMade table numbers programs
  pub stand : StandAt numbers which wanted
