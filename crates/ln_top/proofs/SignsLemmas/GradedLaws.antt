-- `graded`: a predicate with few stages by total degree has a program in that order, with its verdicts.
use Rattle.std.proofs.Common.{◌≡◌, inl, inr, ℕ, ◌≤◌, List, [], ◌∷◌, length, map, refl, ap, sym, ◌∙◌, subst, arith}
use Rattle.std.proofs.Common.{All, Some, Ok, Err, Result}
use Rattle.std.proofs.lemmas.List.Elements.{All-nil, All-cons}
use Rattle.std.specs.Prelude.{IfErr, IfOk, IfSome, IsErrAnd, None, Option, slice_get, slice_index_or}
use Rattle.ln_base.specs.Outside.{refused}
use Rattle.ln_algebra.specs.Orders.{ByDegree}
use Rattle.ln_base.specs.Limits.{most_graded, most_weight}
use Rattle.ln_tree.specs.declared.pred.Pred.{Pred}
use Rattle.ln_tree.specs.declared.shape.Shape.{Shape}
use Rattle.ln_tree.specs.declared.shape.VarInfo.{VarInfo}
use Rattle.ln_tree.specs.Table.{PredOf, pred_of}
use Rattle.ln_poly.specs.Sparse.{Sparse}
use Rattle.ln_stage.specs.Lists.{AreStageListsIn, Passes, stage_count, stage_weight}
use Rattle.ln_stage.proofs.Sights.Members.{lists-one}
use Rattle.ln_code.specs.Carried.{vectors}
use Rattle.ln_code.specs.Lists.{lists_of}
use Rattle.ln_code.specs.Part.{Code, FilterCode, Part}
use Rattle.ln_compile.specs.Accepted.{root_of}
use Rattle.ln_compile.specs.Compiled.{AreNumbered, IsBeginningAt, IsBeginningOf, IsFilterOf}
use Rattle.ln_compile.specs.Filtered.{AnswersFor}
use Rattle.ln_compile.specs.Polynomial.{IsPolynomialAt, IsPolynomialOf}
use Rattle.ln_compile.proofs.Numbers.{holds_at, number_at}
use Rattle.ln_graded.specs.Graded.{CanBegin, IsGradable, IsGradedFrom, IsWithin, StopsFor}
use Rattle.ln_graded.specs.declared.stop.GradedStop.{GradedStop}
use Rattle.ln_graded.specs.declared.stop.GradedStop.TheVariants.{NoMemory, Stages}
use Rattle.ln_stage.proofs.Results.SamePoly.{one-normal}
use Rattle.ln_top.specs.Frame.Given.{Given}
use Rattle.ln_top.specs.Signs.Graded.{FirstHasFew, HasFewGraded, IsGradedAt, KeepsGraded, rank_kept}
use Rattle.ln_top.specs.Signs.Named.{IsGivenBy}
use Rattle.ln_top.specs.Target.Target.{Belongs, HasProgram, TargetOf, pred_in}
use Rattle.ln_top.proofs.TargetLemmas.TargetLaws.{has_program}

-- ---- the first of the named predicates
-- a predicate by its number has few stages, and this program by total degree
abbrev pub IsFewBy : List PredOf → ℕ → Part → Type 0
IsFewBy table i q = (p : PredOf) → slice_get table i ≡ Some p → HasFewGraded p × AnswersFor ByDegree p q

-- a predicate by its number has too many stages
abbrev pub IsMany : List PredOf → ℕ → Type 0
IsMany table i = (p : PredOf) → slice_get table i ≡ Some p → HasFewGraded p → ⊥

-- the program of the first named predicate is kept
pub first_kept : (table : List PredOf) (numbers : List ℕ) (q : Part) → IsFewBy table (slice_index_or numbers 0 0) q
    → KeepsGraded table numbers (Some q)
first_kept table [] q h = tt
first_kept table (i ∷ is) q h = λ p a. (h p a).1

-- the first named predicate has few stages
pub first_few : (table : List PredOf) (numbers : List ℕ) (preds : List PredOf) {q : Part} → 1 ≤ length numbers
    → IsFewBy table (slice_index_or numbers 0 0) q → AreNumbered table numbers preds → FirstHasFew preds
first_few table [] preds l h a = absurd (omega (arith, l))
first_few table (i ∷ is) [] l h a = absurd a
first_few table (i ∷ is) (p ∷ ps) l h a = (h p a.0).0

-- where a predicate is named, a program of that of the first number is kept, by total degree
pub kept_first : (table : List PredOf) (numbers : List ℕ) (kept : Option Part) → 1 ≤ length numbers → KeepsGraded table numbers kept
    → IfSome kept (IsGradedAt table (slice_index_or numbers 0 0)) × (rank_kept kept ≡ ByDegree)
kept_first table [] kept l h = absurd (omega (arith, l))
kept_first table (i ∷ is) None l h = absurd h
kept_first table (i ∷ is) (Some q) l h = (h, refl)

-- the one predicate that is given has a program, that of the target that is it
pub program_given : {g : Given} {t : TargetOf} → IsGivenBy g t → t.rank ≡ ByDegree → Belongs t.rank t.pred t.program
    → All (HasProgram ByDegree) g.preds
program_given {t = t} given rank b =
    rw given.pred (All-cons (HasProgram ByDegree) (pred_in t) [] (has_program ByDegree (pred_in t) t.program b.kept (rw rank at b.answers))
    (All-nil (HasProgram ByDegree)))

-- ---- few stages
-- stage lists that pass a limit
abbrev Many : ℕ → List VarInfo → Sparse → Type 0
Many k vars f = (lists : List (List (List ℕ))) × AreStageListsIn ByDegree k vars f lists × Passes (length vars) f most_graded most_weight lists

-- where the lists of a program are within both limits, there are no others that pass one
within_none : (s : Shape) (f : Sparse) (o : Option FilterCode) (b : Option Code) (q : Part) → IsGradedFrom s f o b q
    → IsWithin s f most_graded most_weight q → Many s.sites s.vars f → ⊥
within_none s f o b q g w m = by_limit m.2
  where
    same : m.0 ≡ map (vectors q) (lists_of q)
    same = lists-one ByDegree s.sites s.vars f m.0 (map (vectors q) (lists_of q)) s.kept m.1 g.lists

    by_limit : Passes (length s.vars) f most_graded most_weight m.0 → ⊥
    by_limit (inl l) = absurd (omega (arith, l, w.count, ap stage_count same))
    by_limit (inr l) = absurd (omega (arith, l, w.weight, ap (stage_weight (length s.vars) f) same))

-- ---- the program
-- where memory runs out it isn't said that there are too many stages
pub short_stops : {T : Type 0} (r : Result T GradedStop) (P : Type 0) → IsErrAnd r (λ s. s ≡ NoMemory refused) → IfErr r (λ s. s ≡ Stages → P)
short_stops (Ok q) P h = tt
short_stops (Err s) P h = λ k. let e : NoMemory refused ≡ Stages = sym h ∙ k in cc

module _ (ps : List Pred) (i : ℕ) (p : Pred) (there : slice_get ps i ≡ Some p) (f : Sparse) (o : Option FilterCode) (own : Code)
    (polys : IsPolynomialAt (map pred_of ps) i f) (begins : IsBeginningAt (map pred_of ps) i (o, own)) where
  poly : IsPolynomialOf (pred_of p) f
  poly = polys (pred_of p) (number_at ps i p there)

  begin : IsBeginningOf (pred_of p) o own
  begin = begins (pred_of p) (number_at ps i p there)

  -- the polynomial of the predicate with this number is one that a program by total degree can be made of
  pub gradable : IsGradable p.shape.vars f
  gradable = record {
    form = poly.normal.form;
    some = poly.some;
    below = poly.normal.below;
    few = poly.few;
    degrees = poly.degrees;
    weight = poly.weight;
  }

  -- and such a program can begin with its filter and its block 0
  pub can_begin : CanBegin p.shape f o own
  can_begin = record {
    plain = begin.own.plain;
    block = begin.block f poly.normal;
    rules = begin.rules;
    whole = begin.whole f poly.normal;
    pushes = begin.pushes;
    short = begin.short;
  }

  -- where the lists of the program are within both limits, the predicate has few stages
  few : (q : Part) → IsGradedFrom p.shape f o (Some own) q → IsWithin p.shape f most_graded most_weight q → HasFewGraded (pred_of p)
  few q g w z =
      let same : z.poly ≡ f = one-normal (length p.shape.vars) (root_of (pred_of p)) z.poly f z.normal poly.normal in
      within_none p.shape f o (Some own) q g w
      (subst (λ (h : Sparse). Many p.shape.sites p.shape.vars h) same (z.lists, z.are_lists, z.passes))

  -- the program implements the predicate in that order of infinitesimals
  answers : (q : Part) → IsGradedFrom p.shape f o (Some own) q → AnswersFor ByDegree (pred_of p) q
  answers q g = record {
    sites = ap (λ (z : Shape). z.sites) g.shape;
    vars = ap (λ (z : Shape). z.vars) g.shape;
    filter = subst (IsFilterOf (pred_of p)) (sym g.filter) begin.filter;
    poly = f;
    carries = g.carries (root_of (pred_of p)) begin.inputs poly.normal.normal;
  }

  -- it does so for the predicate with this number, which has few stages where the lists of the program are within both limits
  pub programs_at : (r : Result Part GradedStop) → IfOk r (IsGradedFrom p.shape f o (Some own)) → IfOk r (IsWithin p.shape f most_graded most_weight)
      → IfOk r (IsFewBy (map pred_of ps) i)
  programs_at (Ok q) g w = holds_at (λ a. HasFewGraded a × AnswersFor ByDegree a q) ps i p there (few q g w, answers q g)
  programs_at (Err s) g w = tt

  -- where there is none, the predicate with this number has too many stages
  pub stops_at : (r : Result Part GradedStop) → IfErr r (StopsFor p.shape f most_graded most_weight)
      → IfErr r (λ s. s ≡ Stages → IsMany (map pred_of ps) i)
  stops_at (Ok q) h = tt
  stops_at (Err Stages) h = λ k. holds_at (λ a. HasFewGraded a → ⊥) ps i p there
      (λ m. m (record { poly = f; normal = poly.normal; lists = h.0; are_lists = h.1; passes = h.2 }))
  stops_at (Err (NoMemory m)) h = λ k. cc
