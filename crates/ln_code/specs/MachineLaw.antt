-- The laws of the machine over a part.
use Rattle.std.specs.Prelude.{◌≡◌, List, map}
use Rattle.ln_algebra.specs.Orders.{Rank}
use Rattle.ln_algebra.specs.Terms.{Term}
use Rattle.ln_algebra.specs.Tree.{Tree}
use Rattle.ln_tree.specs.Row.{InRange, Row}
use Rattle.ln_order.specs.Rows.{AreStageListsOf}
use Rattle.ln_code.specs.declared.verdict.Verdict.{Verdict}
use Rattle.ln_code.specs.Carried.{Carries, Runs, vectors}
use Rattle.ln_code.specs.Kept.{IsProgram}
use Rattle.ln_code.specs.Lists.{lists_of}
use Rattle.ln_code.specs.Part.{Part}
use Rattle.ln_code.specs.Verdict.{IsVerdict}

-- a program has what the machine needs
abbrev pub ProgramsRun : Type 0
ProgramsRun = (p : Part) → IsProgram p → Runs p

-- the machine has a verdict on every row in range
abbrev pub RowsHaveVerdicts : Type 0
RowsHaveVerdicts = (p : Part) (row : Row) → Runs p → InRange p.shape.sites p.shape.vars row → (v : Verdict) × IsVerdict p row v

-- and on no row two
abbrev pub VerdictIsUnique : Type 0
VerdictIsUnique = (p : Part) (row : Row) (v w : Verdict) → IsVerdict p row v → IsVerdict p row w → v ≡ w

-- the lists of a part that carries an expression, taken together, are its stage lists of all orders of the sites
abbrev pub ListsAreStageLists : Type 0
ListsAreStageLists =
    (rank : Rank) (p : Part) (e : Tree) (f : List Term) → Runs p → Carries rank p e f →
    AreStageListsOf rank p.shape.sites p.shape.vars e (map (vectors p) (lists_of p))
