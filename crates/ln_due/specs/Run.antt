-- The laws in the order of infinitesimals by which `run` decides rows: by the smallest one in which two vectors differ.
use Rattle.std.specs.Prelude.{◌≢◌, ℕ, All, List, length, None}
use Rattle.ln_base.specs.declared.sign.Sign.TheVariants.{Zero}
use Rattle.ln_algebra.specs.Orders.{BySmallest}
use Rattle.ln_algebra.specs.Sign.{IsPerturbedSign}
use Rattle.ln_algebra.specs.Stage.{IsMonomial}
use Rattle.ln_algebra.specs.Terms.{Term}
use Rattle.ln_algebra.specs.Tree.{InputsBelow, Tree}
use Rattle.ln_tree.specs.declared.shape.Shape.{Shape}
use Rattle.ln_tree.specs.Row.{InRange, Row, values}
use Rattle.ln_order.specs.Sites.{row_sites}
use Rattle.ln_code.specs.Carried.{Carries, Runs}
use Rattle.ln_code.specs.declared.verdict.Verdict.{Verdict}
use Rattle.ln_code.specs.Part.{Part}
use Rattle.ln_code.specs.Verdict.{IsVerdict}
use Rattle.ln_due.specs.Due.{Due, Filtering, sign_number}
use Rattle.ln_due.specs.DueLaw.{Agree, FilterDoes}

-- the machine's verdict on a row in range is the required one
abbrev pub RunIsDue : Type 0
RunIsDue =
    (p : Part) (e : Tree) (f : List Term) (row : Row) (does : Filtering) (v : Verdict) → Runs p → Carries BySmallest p e f →
    InRange p.shape.sites p.shape.vars row → FilterDoes p row.values does → IsVerdict p row v → Due BySmallest does p.shape.vars e row v

-- its sign is the perturbed sign
abbrev pub RunIsPerturbed : Type 0
RunIsPerturbed =
    (p : Part) (e : Tree) (f : List Term) (row : Row) (v : Verdict) → Runs p → Carries BySmallest p e f →
    InRange p.shape.sites p.shape.vars row → IsVerdict p row v →
    IsPerturbedSign (length p.shape.vars) (row_sites p.shape.vars row.index) (values row.values) e (sign_number v.sign)

-- the required verdict has the perturbed sign
abbrev pub DueIsPerturbed : Type 0
DueIsPerturbed =
    (s : Shape) (e : Tree) (row : Row) (does : Filtering) (v : Verdict) → Due BySmallest does s.vars e row v →
    IsPerturbedSign (length s.vars) (row_sites s.vars row.index) (values row.values) e (sign_number v.sign)

-- without params it isn't 0
abbrev pub RunIsNeverZero : Type 0
RunIsNeverZero =
    (s : Shape) (e : Tree) (m : List ℕ) (row : Row) (does : Filtering) (v : Verdict) → All (λ i. i.site ≢ None) s.vars →
    InputsBelow (length s.vars) e →
    IsMonomial (length s.vars) e m → InRange s.sites s.vars row → Due BySmallest does s.vars e row v → v.sign ≢ Zero

-- there is one
abbrev pub RunIsUnique : Type 0
RunIsUnique =
    (s : Shape) (e : Tree) (row : Row) (does : Filtering) (v w : Verdict) → InRange s.sites s.vars row →
    Due BySmallest does s.vars e row v → Due BySmallest does s.vars e row w → Agree v w
