-- What the filter of a predicate does on a row.
use Rattle.std.proofs.Common.{◌≡◌, ◌⊎◌, inl, inr, ◌<◌, ◌≤◌, List, length, Option, Some, None, refl, sym, subst, arith, unsigned_abs}
use Rattle.std.proofs.lemmas.Bool.{cases_lt}
use Rattle.ln_algebra.specs.Orders.{BySmallest}
use Rattle.ln_tree.specs.declared.shape.VarInfo.{VarInfo}
use Rattle.ln_tree.specs.Row.{InRange, Row}
use Rattle.ln_tree.specs.Table.{PredOf}
use Rattle.ln_poly.specs.Sparse.{terms_of}
use Rattle.ln_code.specs.Exact.{Held}
use Rattle.ln_code.specs.Part.{FilterCode, Part}
use Rattle.ln_code.proofs.Verdicts.Machine.{programs-run}
use Rattle.ln_due.specs.Due.{Filtering, NoFilter, Decided, Undecided, Due}
use Rattle.ln_due.specs.DueLaw.{FilterDoes}
use Rattle.ln_due.proofs.Verdicts.Composition.{verdicts-due}
use Rattle.ln_due.proofs.Verdicts.UniqueLemmas.{due-unique}
use Rattle.ln_filter.specs.Truncated.{root_number, root_triple}
use Rattle.ln_compile.specs.Accepted.{lets_of, own_root, root_of}
use Rattle.ln_compile.specs.Compiled.{IsFilterOf, IsProgramOf}
use Rattle.ln_compile.specs.Filtered.{AnswersFor, Does, OneIsDue, OneIsDueIn, PartsAnswerDue, ProgramsAnswerDue}

-- what the predicate's filter leaves on a row
abbrev left_on : PredOf → Row → Held
left_on p row = record { number = root_number p.vars row.values (lets_of p) (own_root p); error = (root_triple p.vars (lets_of p) (own_root p)).e }

-- the program's filter does what the predicate's does
does_both : (p : PredOf) (part : Part) (row : Row) → InRange p.sites p.vars row → (o : Option FilterCode) → part.filter ≡ o → IsFilterOf p o
    → (does : Filtering) × Does p row does × FilterDoes part row.values does
does_both p part row r None e own = (NoFilter, own, e)
does_both p part row r (Some f) e own = by_size (cases_lt (left_on p row).error (unsigned_abs (left_on p row).number))
  where
    by_size : ((left_on p row).error < unsigned_abs (left_on p row).number) ⊎ (unsigned_abs (left_on p row).number ≤ (left_on p row).error)
        → (does : Filtering) × Does p row does × FilterDoes part row.values does
    by_size (inl h) = (Decided, record { has = own.0; above = h }, (f, left_on p row, e, own.1 row.values r.values, h))
    by_size (inr h) = (Undecided, (own.0, λ d. absurd (omega (arith, h, d.above))), (f, left_on p row, e, own.1 row.values r.values, h))

-- the verdict of a part that implements a predicate is the required one on a row in range
pub parts_answer : PartsAnswerDue
parts_answer rank p part row v k o range verdict =
    let there : InRange part.shape.sites part.shape.vars row = rw (o.sites, o.vars) range in
    let d = does_both p part row range part.filter refl o.filter in
    record {
      filtering = d.0;
      does = d.1;
      due = subst (λ (vs : List VarInfo). Due rank d.0 vs (root_of p) row v) o.vars
          (verdicts-due rank part (root_of p) (terms_of (length p.vars) o.poly) row d.0 v (programs-run part k) o.carries there d.2 verdict);
    }

-- a predicate's program implements it
pub answers_for : (p : PredOf) (part : Part) → IsProgramOf p part → AnswersFor BySmallest p part
answers_for p part o = record { sites = o.sites; vars = o.vars; filter = o.filter; poly = o.poly; carries = o.carries }

-- the verdict of a predicate's program is the required one on a row in range
pub programs_answer : ProgramsAnswerDue
programs_answer p part row v k o range verdict = parts_answer BySmallest p part row v k (answers_for p part o) range verdict

-- it does one thing on a row
one_does : (p : PredOf) (row : Row) (a b : Filtering) → Does p row a → Does p row b → a ≡ b
one_does p row NoFilter NoFilter h k = refl
one_does p row NoFilter Decided h k = absurd (h k.has)
one_does p row NoFilter Undecided h k = absurd (h k.0)
one_does p row Decided NoFilter h k = absurd (k h.has)
one_does p row Decided Decided h k = refl
one_does p row Decided Undecided h k = absurd (k.1 h)
one_does p row Undecided NoFilter h k = absurd (k h.0)
one_does p row Undecided Decided h k = absurd (h.1 k)
one_does p row Undecided Undecided h k = refl

-- a row in range requires at most one verdict in an order of infinitesimals, but for the wide operations
pub one_due_in : OneIsDueIn
one_due_in rank s p row v w e f range a b =
    let same : a.filtering ≡ b.filtering = one_does p row a.filtering b.filtering a.does b.does in
    let there : InRange s.sites s.vars row = rw (sym e, sym f) range in
    let left : Due rank b.filtering s.vars (root_of p) row v = subst (λ (vs : List VarInfo). Due rank b.filtering vs (root_of p) row v) e
    (subst (λ (d : Filtering). Due rank d p.vars (root_of p) row v) same a.due) in
    due-unique rank s (root_of p) row b.filtering v w there left (subst (λ (vs : List VarInfo). Due rank b.filtering vs (root_of p) row w) e b.due)

-- a row in range requires at most one verdict by the smallest infinitesimal, but for the wide operations
pub one_due : OneIsDue
one_due = one_due_in BySmallest
