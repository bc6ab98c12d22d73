-- `run` and `graded`: each record has a line, and one line, and so what they require is one.
use Rattle.std.proofs.Common.{◌≡◌, ℕ, ◌+◌, List, [], ◌∷◌, refl, ap, All, Ok, Option, Result, Some}
use Rattle.ln_base.specs.Outside.{Shown}
use Rattle.ln_algebra.specs.Orders.{BySmallest, ByDegree, Rank}
use Rattle.ln_tree.specs.Table.{PredOf, pred_of}
use Rattle.ln_tree.specs.declared.pred.Pred.{Pred}
use Rattle.ln_code.specs.declared.verdict.Verdict.{Verdict}
use Rattle.ln_compile.specs.Filtered.{IsDueIn}
use Rattle.ln_due.specs.DueLaw.{Agree}
use Rattle.ln_compile.proofs.Listing.FilteredLemmas.{one_due_in}
use Rattle.ln_rows.proofs.Fields.RangeLemmas.{row_in_range}
use Rattle.ln_watch.specs.Panel.{State}
use Rattle.ln_top.specs.declared.frame.status.End.{End}
use Rattle.ln_top.specs.declared.frame.status.End.TheVariants as end
use Rattle.ln_top.specs.declared.frame.status.Early.{Early}
use Rattle.ln_top.specs.Frame.Carried.{CarriesOut}
use Rattle.ln_top.specs.Frame.Given.{Given}
use Rattle.ln_top.specs.Frame.Said.{Count, line}
use Rattle.ln_top.specs.Frame.Stop.{why_end}
use Rattle.ln_top.specs.declared.frame.asked.Asked.TheVariants.{FewStages, Nothing}
use Rattle.ln_top.specs.Signs.Graded.{many_stages}
use Rattle.ln_top.specs.Target.Line.{said_text}
use Rattle.ln_top.specs.Signs.Signs.{RunLine, RunPart, RunSaid, graded_work, run_work, shown_of}
use Rattle.ln_top.specs.Target.Target.{Belongs, HasProgram, TargetOf, pred_in}
use Rattle.ln_top.specs.Signs.Watching.{watching}
use Rattle.ln_top.proofs.FrameLemmas.Laws.{IsLawful, lawful_by, shape_objects, usage_other}
use Rattle.ln_top.proofs.SignsLemmas.OneLine.{line_of, said_there, says_alike}
use Rattle.ln_top.proofs.SignsLemmas.RowsLaws.{HasLines, HasOneLine, SameLine, lawful_rows, one_line, unseen}
use Rattle.ln_top.proofs.TargetLemmas.TargetLaws.{owed_there}
use Rattle.ln_top.proofs.SignsLemmas.WatchingLaws.{left_alike, lines_alike}

-- each record has a line
pub line_there : (t : TargetOf) → Belongs t.rank t.pred t.program → HasLines (RunLine t.rank) (pred_in t) t.names
line_there t belongs number fields =
    line_of shown_of (λ said. line (said_text t.names said)) (said_there (IsDueIn t.rank (pred_in t)) (pred_in t) fields
    (λ row e. owed_there t.rank t.pred t.program row belongs (row_in_range t.pred.shape.sites t.pred.shape.vars fields row t.pred.shape.kept e)))

-- verdicts that agree have one line
agreed : (names : List (List ℕ)) (v u : Verdict) → Agree v u → SameLine (Some v) (Some u) (line (said_text names (Ok v))) (line (said_text names (Ok u)))
agreed names v u a = record {
  text = rw (a.sign, a.by) refl;
  lines = λ w. lines_alike (w.seen + 1) v u w.boxes a.sign a.by;
  lefts = λ w. ap (watching (w.seen + 1)) (left_alike (w.seen + 1) v u w.boxes a.sign a.by);
}

-- a record has one line
one_run : (rank : Rank) (q : Pred) (names : List (List ℕ)) → HasOneLine (RunLine rank) (pred_of q) names
one_run rank q names n fields x y a b =
    one_line (says_alike (pred_of q) fields
    (λ s t. SameLine (shown_of s) (shown_of t) (line (said_text names s)) (line (said_text names t)))
    (λ row v u e d k. agreed names v u (one_due_in rank q.shape (pred_of q) row v u refl refl
    (row_in_range q.shape.sites q.shape.vars fields row q.shape.kept e) d k)) (λ stop. unseen refl))

many_objects : (bytes : List ℕ) (preds : List PredOf) → why_end (many_stages bytes preds) ≡ end.Usage → ⊥
many_objects bytes [] i = usage_other i tt
many_objects bytes (p ∷ ps) i = usage_other i tt

-- the laws of a work hold for `run`
pub lawful : IsLawful Nothing run_work
lawful = lawful_rows Nothing [] (λ preds. RunLine BySmallest) (λ boxes. boxes) shape_objects (λ g i s q others f. one_run BySmallest q)

-- the laws of a work hold for `graded`
pub lawful_graded : IsLawful FewStages graded_work
lawful_graded =
    lawful_by (All (HasProgram ByDegree)) (lawful_rows FewStages []
    (λ preds. RunLine ByDegree) (λ boxes. []) many_objects (λ g i s q others f. one_run ByDegree q))

-- what is carried out in one order and for some watchers, where these are others by name
pub carried_as : {rank order : Rank} {boxes these : List State} {g : Given} {puts : Count} {result : Result End Early} {was now : Option Shown}
    → rank ≡ order → boxes ≡ these → CarriesOut (RunSaid rank boxes g) (RunPart rank boxes g) ⊥ ⊥ puts result was now
    → CarriesOut (RunSaid order these g) (RunPart order these g) ⊥ ⊥ puts result was now
carried_as r b o = rw (r, b) at o
