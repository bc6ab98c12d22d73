-- The verdict that is required on a row of a predicate, by what the predicate's filter does on it.
use Rattle.std.specs.Prelude.{◌≡◌, length}
use Rattle.ln_algebra.specs.Orders.{BySmallest, Rank}
use Rattle.ln_tree.specs.Row.{InRange, Row}
use Rattle.ln_tree.specs.Table.{PredOf}
use Rattle.ln_tree.specs.declared.shape.Shape.{Shape}
use Rattle.ln_code.specs.declared.verdict.Verdict.{Verdict}
use Rattle.ln_poly.specs.Sparse.{Sparse, terms_of}
use Rattle.ln_code.specs.Carried.{Carries}
use Rattle.ln_code.specs.Kept.{IsProgram}
use Rattle.ln_code.specs.Part.{Part}
use Rattle.ln_code.specs.Verdict.{IsVerdict}
use Rattle.ln_due.specs.Due.{Filtering, NoFilter, Decided, Undecided, Due}
use Rattle.ln_due.specs.DueLaw.{Agree}
use Rattle.ln_filter.specs.Steady.{HasFilter}
use Rattle.ln_filter.specs.Truncated.{Decides}
use Rattle.ln_compile.specs.Accepted.{lets_of, own_root, root_of}
use Rattle.ln_compile.specs.Compiled.{IsFilterOf, IsProgramOf}

-- the predicate has no filter; or it has one that decides the row, or one that doesn't
abbrev pub Does : PredOf → Row → Filtering → Type 0
Does p row NoFilter = HasFilter p.vars (lets_of p) (own_root p) → ⊥
Does p row Decided = Decides p.vars row.values (lets_of p) (own_root p)
Does p row Undecided = HasFilter p.vars (lets_of p) (own_root p) × (Decides p.vars row.values (lets_of p) (own_root p) → ⊥)

-- the verdict that is required on a row in this order of infinitesimals
pub record IsDueIn (rank : Rank) (p : PredOf) (row : Row) (v : Verdict) : Type 0 where
  pub filtering : Filtering
  pub does : Does p row filtering
  pub due : Due rank filtering p.vars (root_of p) row v

-- the same by the smallest infinitesimal in which two vectors differ
abbrev pub IsDue : PredOf → Row → Verdict → Type 0
IsDue p row v = IsDueIn BySmallest p row v

-- the part implements the predicate in this order of infinitesimals: it is over the predicate's variables, has the predicate's
-- filter, and carries the predicate's root
pub record AnswersFor (rank : Rank) (p : PredOf) (part : Part) : Type 0 where
  pub sites : part.shape.sites ≡ p.sites
  pub vars : part.shape.vars ≡ p.vars
  pub filter : IsFilterOf p part.filter
  pub poly : Sparse
  pub carries : Carries rank part (root_of p) (terms_of (length p.vars) poly)

-- the verdict of such a part on a row in range is the required one
abbrev pub PartsAnswerDue : Type 0
PartsAnswerDue = (rank : Rank) (p : PredOf) (part : Part) (row : Row) (v : Verdict) → IsProgram part → AnswersFor rank p part →
    InRange p.sites p.vars row → IsVerdict part row v → IsDueIn rank p row v

-- the verdict of a predicate's program on a row in range is the required one
abbrev pub ProgramsAnswerDue : Type 0
ProgramsAnswerDue = (p : PredOf) (part : Part) (row : Row) (v : Verdict) → IsProgram part → IsProgramOf p part →
    InRange p.sites p.vars row → IsVerdict part row v → IsDue p row v

-- a row in range of a predicate over the variables of a shape requires at most one verdict, but for the wide operations
abbrev pub OneIsDueIn : Type 0
OneIsDueIn = (rank : Rank) (s : Shape) (p : PredOf) (row : Row) (v w : Verdict) → p.vars ≡ s.vars → p.sites ≡ s.sites →
    InRange p.sites p.vars row → IsDueIn rank p row v → IsDueIn rank p row w → Agree v w

-- the same by the smallest infinitesimal in which two vectors differ
abbrev pub OneIsDue : Type 0
OneIsDue = (s : Shape) (p : PredOf) (row : Row) (v w : Verdict) → p.vars ≡ s.vars → p.sites ≡ s.sites →
    InRange p.sites p.vars row → IsDue p row v → IsDue p row w → Agree v w
