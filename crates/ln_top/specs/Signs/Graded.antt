-- Defines what `graded` asks of its predicate: few stages by total degree.
use Rattle.std.specs.Prelude.{◌≡◌, ℕ, List, [], ◌∷◌, length, slice_get, IsSomeAnd, Option, Some, None}
use Rattle.ln_algebra.specs.Orders.{ByDegree, BySmallest, Rank}
use Rattle.ln_base.specs.Limits.{most_graded, most_weight}
use Rattle.ln_tree.specs.Table.{PredOf}
use Rattle.ln_poly.specs.Expansion.{IsNormal}
use Rattle.ln_poly.specs.Sparse.{Sparse}
use Rattle.ln_stage.specs.Lists.{AreStageListsIn, Passes}
use Rattle.ln_code.specs.Part.{Part}
use Rattle.ln_compile.specs.Accepted.{root_of}
use Rattle.ln_compile.specs.Filtered.{AnswersFor}
use Rattle.ln_top.specs.declared.frame.stop.Why.{Why}
use Rattle.ln_top.specs.declared.frame.stop.Why.TheVariants.{Shape, Stages}
use Rattle.ln_top.specs.Frame.Source.{place_at}

-- it has too many stages by total degree: the stage lists of its normal polynomial in that order of infinitesimals, one for each order
-- of its sites, have more than 262,144 stages, or more than 131,072 monomials cover their distinct stages
pub record HasManyGraded (p : PredOf) : Type 0 where
  pub poly : Sparse
  pub normal : IsNormal (length p.vars) (root_of p) poly
  pub lists : List (List (List ℕ))
  pub are_lists : AreStageListsIn ByDegree p.sites p.vars poly lists
  pub passes : Passes (length p.vars) poly most_graded most_weight lists

-- it has not
abbrev pub HasFewGraded : PredOf → Type 0
HasFewGraded p = HasManyGraded p → ⊥

-- the first of these has not
abbrev pub FirstHasFew : List PredOf → Type 0
FirstHasFew [] = Unit {0}
FirstHasFew (p ∷ ps) = HasFewGraded p

-- it is a program in that order of the predicate with this number
abbrev pub IsGradedAt : List PredOf → ℕ → Part → Type 0
IsGradedAt table i q = (p : PredOf) → slice_get table i ≡ Some p → AnswersFor ByDegree p q

-- a program of the predicate with the first of these numbers in that order is kept
abbrev pub KeepsGraded : List PredOf → List ℕ → Option Part → Type 0
KeepsGraded table [] kept = Unit {0}
KeepsGraded table (i ∷ is) kept = IsSomeAnd kept (IsGradedAt table i)

-- the order in which a predicate is run: that of the program that is kept, or else by the smallest infinitesimal
abbrev pub rank_kept : Option Part → Rank
rank_kept None = BySmallest
rank_kept (Some q) = ByDegree

-- a predicate with too many stops the command with `stages` at its name's place in the source
abbrev pub many_stages : List ℕ → List PredOf → Why
many_stages bytes [] = Shape
many_stages bytes (p ∷ ps) = Stages (place_at bytes p.at)
