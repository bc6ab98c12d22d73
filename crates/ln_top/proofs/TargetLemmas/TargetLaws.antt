-- Proves what a predicate that is run keeps: the verdict of its program is the one required, on each row in range there is one,
-- and it is what is returned.
use Rattle.std.proofs.Common.{◌≡◌, refl, subst}
use Rattle.ln_algebra.specs.Orders.{Rank}
use Rattle.ln_tree.specs.declared.pred.Pred.{Pred}
use Rattle.ln_tree.specs.Row.{InRange, Row}
use Rattle.ln_tree.specs.Table.{PredOf, pred_of}
use Rattle.ln_code.specs.declared.row.Row as code
use Rattle.ln_code.specs.declared.verdict.Verdict.{Verdict}
use Rattle.ln_code.specs.Part.{Part}
use Rattle.ln_code.specs.RowOf.{row_of}
use Rattle.ln_code.specs.Verdict.{IsVerdict}
use Rattle.ln_code.proofs.Verdicts.Machine.{programs-run, rows-have}
use Rattle.ln_code.specs.Kept.{IsProgram}
use Rattle.ln_compile.specs.Filtered.{AnswersFor, IsDueIn}
use Rattle.ln_compile.proofs.Listing.FilteredLemmas.{parts_answer}
use Rattle.ln_top.specs.Target.Target.{Belongs, HasProgram}

-- a row in range is in range for the program
pub row_for : (rank : Rank) (p : Pred) (part : Part) (r : code.Row) → Belongs rank p part
    → InRange p.shape.sites p.shape.vars (row_of p.shape.sites p.shape.vars r)
    → InRange part.shape.sites part.shape.vars (row_of part.shape.sites part.shape.vars r)
row_for rank p part r b range = rw (b.answers.sites, b.answers.vars) range

-- the verdict of the program's machine on it is the one that it requires
pub answer_due : (rank : Rank) (p : Pred) (part : Part) (r : code.Row) (v : Verdict) → Belongs rank p part
    → InRange p.shape.sites p.shape.vars (row_of p.shape.sites p.shape.vars r)
    → IsVerdict part (row_of part.shape.sites part.shape.vars r) v → IsDueIn rank (pred_of p) (row_of p.shape.sites p.shape.vars r) v
answer_due rank p part r v b range verdict =
    let same : row_of part.shape.sites part.shape.vars r ≡ row_of p.shape.sites p.shape.vars
    r = rw (b.answers.sites, b.answers.vars) refl in
    let there = subst (λ (row : Row). IsVerdict part row v) same verdict in
    parts_answer rank (pred_of p) part (row_of p.shape.sites p.shape.vars r) v b.kept b.answers range there

-- each row in range requires a verdict
pub owed_there : (rank : Rank) (p : Pred) (part : Part) (row : Row) → Belongs rank p part → InRange p.shape.sites p.shape.vars row
    → (v : Verdict) × IsDueIn rank (pred_of p) row v
owed_there rank p part row b range =
    let there : InRange part.shape.sites part.shape.vars row = rw (b.answers.sites, b.answers.vars) range in
    let v = rows-have part row (programs-run part b.kept) there in
    (v.0, parts_answer rank (pred_of p) part row v.0 b.kept b.answers range v.1)

-- a part that follows the rules and implements the predicate is a program of it
pub has_program : (rank : Rank) (p : PredOf) (part : Part) → IsProgram part → AnswersFor rank p part → HasProgram rank p
has_program rank p part kept answers = record {
  program = part;
  has = λ row range. rows-have part row (programs-run part kept) (rw (answers.sites, answers.vars) range);
  due = λ row v range verdict. parts_answer rank p part row v kept answers range verdict;
}
