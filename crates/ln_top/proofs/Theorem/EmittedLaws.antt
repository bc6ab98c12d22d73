-- The calls of the C that was written mean the perturbed signs, under the names of the source's predicates.
use Rattle.std.proofs.Common.{◌≡◌, ℕ, All, List, [], ◌∷◌, ◌++◌, map, Option, ap, refl, ◌∙◌, subst}
use Rattle.std.specs.List.{AllZip}
use Rattle.std.proofs.lemmas.List.Elements.{All-cons, All-nil}
use Rattle.ln_base.specs.Outside.{Shown}
use Rattle.ln_algebra.specs.Orders.{BySmallest}
use Rattle.ln_watch.specs.Panel.{State}
use Rattle.ln_tree.specs.declared.pred.Pred.{Pred}
use Rattle.ln_tree.specs.Row.{InRange, Row}
use Rattle.ln_tree.specs.Table.{PredOf, TableOf, pred_of}
use Rattle.ln_code.specs.declared.verdict.Verdict.{Verdict}
use Rattle.ln_code.specs.declared.verdict.By.{By}
use Rattle.ln_code.specs.declared.verdict.By.TheVariants.{Filter}
use Rattle.ln_due.specs.Due.{Filtering, NoFilter, Decided, Undecided, Due}
use Rattle.ln_due.proofs.Verdicts.UniqueLemmas.{due-sign}
use Rattle.ln_compile.specs.Accepted.{AreSound, IsSound, root_of}
use Rattle.ln_compile.specs.Filtered.{Does}
use Rattle.ln_csyn.specs.Tree.{Fun}
use Rattle.ln_top.specs.declared.frame.status.Status.{Status}
use Rattle.ln_top.specs.Frame.Said.{Said, put_both}
use Rattle.ln_top.specs.Frame.Given.{Given}
use Rattle.ln_top.specs.declared.words.Command.TheVariants.{Emit}
use Rattle.ln_top.specs.Texts.Emit.{EmitSaid}
use Rattle.ln_top.specs.Texts.Written.{CallIsDue, IsWrittenOf, with_filters}
use Rattle.ln_cemit.specs.Heads.{heads_as, heads_of, part_heads}
use Rattle.ln_cemit.specs.Whole.{Entered, every_row, part_name, parts_entered}
use Rattle.ln_top.specs.Texts.Text.{prints}
use Rattle.ln_top.specs.Emitted.{CallsPerturbedSign, PutC}
use Rattle.ln_top.specs.ByValue.{IsByValue, IsVerdictByValue, Takes}
use Rattle.ln_top.specs.Perturbed.{FilterDecides}
use Rattle.ln_top.specs.Target.Target.{OnRows}
use Rattle.ln_top.proofs.TextsLemmas.EmitLaws.{AreNamed, names_there}
use Rattle.ln_top.proofs.Theorem.ByValueLaws.{by_value}
use Rattle.ln_top.proofs.Theorem.HeadlineLaws.{never_zero}
use Rattle.ln_top.proofs.Steps.TopLaws.{Worked}
use Rattle.ln_top.proofs.FrameLemmas.Grounded.{IsGrounded}
use Rattle.ln_top.proofs.Steps.Grounded.{IsFine}

-- the shapes of what is given have the names of its predicates
pub names_given : (g : Given) → IsGrounded g → AreNamed g.table.preds
names_given g i = subst (λ (t : TableOf). AreNamed t.preds) i.is (names_there i.table)

-- where the filter decides, the verdict that a row requires is the filter's
pub by_filter : (p : PredOf) (row : Row) (f : Filtering) (v : Verdict) → Does p row f → Due BySmallest f p.vars (root_of p) row v
    → FilterDecides p row → v.by ≡ Filter
by_filter p row NoFilter v d o h = absurd (d h.has)
by_filter p row Decided v d o h = o.by
by_filter p row Undecided v d o h = absurd (d.1 h)

-- where the value decides the verdict, the call takes the same work
called_takes : (f : Filtering) (by : By) (calls wide calls' wide' : ℕ) → calls' ≡ calls → (by ≡ Filter → wide' ≡ 0) → Takes f by calls wide
    → Takes f by calls' wide'
called_takes NoFilter by calls wide calls' wide' e n t = (t.0, e ∙ t.1)
called_takes Decided by calls wide calls' wide' e n t = (t.0, e ∙ t.1, n t.0)
called_takes Undecided by calls wide calls' wide' e n t = (t.0, e ∙ t.1)

called_by_value : (file : List Fun) (p : PredOf) (row : Row) (d : CallIsDue file p row) → IsVerdictByValue p row d.verdict
    → (by : By) × IsByValue p row d.verdict.sign by d.counts.calls d.counts.wide
called_by_value file p row d z = (
  d.verdict.by,
  record {
    sign_is = z.sign_is;
    filtering = z.filtering;
    does = z.does;
    takes = called_takes z.filtering d.verdict.by d.verdict.calls d.verdict.wide d.counts.calls d.counts.wide d.calls d.narrow z.takes;
  },
)

-- the call on a row means the perturbed sign
call_signed : (file : List Fun) (p : Pred) (row : Row) → IsSound (pred_of p) → InRange p.shape.sites p.shape.vars row
    → CallIsDue file (pred_of p) row → CallsPerturbedSign file (pred_of p) row
call_signed file p row sound range d =
    let sign = due-sign BySmallest p.shape.vars (root_of (pred_of p)) row d.due.filtering d.verdict d.due.due in
    record {
      sign = d.verdict.sign;
      counts = d.counts;
      called = d.called;
      perturbed = sign;
      never_zero = λ all. never_zero p row range sound all d.verdict.sign sign;
      narrow = λ h. d.narrow (by_filter (pred_of p) row d.due.filtering d.verdict d.due.does d.due.due h);
      plain = λ z. called_by_value file (pred_of p) row d (by_value BySmallest p.shape (pred_of p) row d.verdict refl refl range z d.due);
    }

all_signed : (file : List Fun) (ps : List Pred) (xs : List Entered) → AreSound (map pred_of ps) → AllZip (IsWrittenOf with_filters file) (map pred_of ps) xs
    → All (OnRows (CallsPerturbedSign file)) (map pred_of ps)
all_signed file [] xs s w = All-nil (OnRows (CallsPerturbedSign file))
all_signed file (p ∷ ps) [] s w = absurd w
all_signed file (p ∷ ps) (x ∷ xs) s w =
    All-cons (OnRows (CallsPerturbedSign file)) (pred_of p) (map pred_of ps) (λ row range. call_signed file p row s.0 range (w.0.calls row range))
    (all_signed file ps xs s.1 w.1)

-- the functions of the file are those of programs with the predicates' names
named_so : (file : List Fun) (ps : List PredOf) (xs : List Entered) → AllZip (IsWrittenOf with_filters file) ps xs
    → (map part_name (parts_entered xs) ≡ map (λ (p : PredOf). p.name) ps) × (heads_as xs ≡ heads_of (parts_entered xs))
named_so file [] [] w = (refl, refl)
named_so file [] (x ∷ xs) w = absurd w
named_so file (p ∷ ps) [] w = absurd w
named_so file (p ∷ ps) (x ∷ xs) w =
    let same : x ≡ every_row x.part = ap (λ n. record { entry = n; part = x.part }) w.0.entry in
    let rest = named_so file ps xs w.1 in
    (λ i. w.0.name i ∷ rest.0 i, λ i. part_heads (same i) ++ rest.1 i)

-- what is required for a source's predicates
put_c : (g : Given) (a : Said) (was now : Option Shown) → IsGrounded g → EmitSaid g a
    → now ≡ put_both a.out a.err was → PutC g.table.preds was now
put_c g a was now i (prints text c) q =
    let preds : map pred_of i.table.preds ≡ g.table.preds = ap (λ (t : TableOf). t.preds) i.is in
    let n = named_so c.file g.table.preds c.programs c.written in
    record {
      bytes = text;
      file = c.file;
      text = c.text;
      functions = record { programs = parts_entered c.programs; names = n.0; heads = c.heads ∙ n.1 };
      signs = rw (← preds) (all_signed c.file i.table.preds c.programs (rw preds i.sound) (rw preds c.written));
      shown = q;
    }

-- what `emit` says has the perturbed signs
pub emitted : {boxes : List State} {result : Status} {was now : Option Shown} (g : Given) → IsFine Emit g
    → Worked Emit boxes g result was now → PutC g.table.preds was now
emitted g i w = put_c g w.said _ _ i.grounded w.owed w.shown
