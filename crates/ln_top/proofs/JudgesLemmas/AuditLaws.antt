-- `audit`: what it requires is carried out by a whole text; a trace is agreed or has one first line that is wrong, and where it ends.
use Rattle.std.proofs.Common.{◌≡◌, ℕ, List, [], ◌∷◌, length, refl, ap, sym, ◌∙◌, Option, Some, Result}
use Rattle.std.specs.Prelude.{slice_get, slice_index_or, IfOk, Ok, Err}
use Rattle.ln_base.specs.Outside.{Shown}
use Rattle.ln_algebra.specs.Tree.{InputsBelow, Tree}
use Rattle.ln_compile.specs.Accepted.{root_of}
use Rattle.ln_poly.specs.Expansion.{IsNormal}
use Rattle.ln_poly.specs.Sparse.{Sparse}
use Rattle.ln_tree.specs.declared.pred.Pred.{Pred}
use Rattle.ln_tree.specs.Table.{PredOf, pred_of}
use Rattle.ln_rows.specs.Left.{Records, records_in}
use Rattle.ln_trace.specs.declared.line.TraceLine.{TraceLine}
use Rattle.ln_trace.specs.declared.judged.Judged.{Judged}
use Rattle.ln_trace.specs.declared.judged.Judged.TheVariants.{Agreed, Wrong}
use Rattle.ln_trace.specs.Here.{HasPoly}
use Rattle.ln_trace.specs.Here as traced
use Rattle.ln_trace.specs.Judge.{IsAnswer}
use Rattle.ln_trace.specs.Judged.{fault_of}
use Rattle.ln_trace.specs.Unread.{AreLeft, IsOpened, Unread}
use Rattle.ln_trace.proofs.Reading.Whole.{no_text, one_fault, one_text}
use Rattle.ln_trace.proofs.Walking.{not-both, one-fault}
use Rattle.ln_watch.specs.Panel.{State}
use Rattle.ln_top.specs.declared.frame.status.End.{End}
use Rattle.ln_top.specs.declared.frame.status.End.TheVariants.{Done, Invalid}
use Rattle.ln_top.specs.declared.frame.ready.Ready.{Ready}
use Rattle.ln_top.specs.declared.frame.status.Early.{Early}
use Rattle.ln_top.specs.declared.frame.stop.Stop.TheVariants as stop
use Rattle.ln_top.specs.declared.frame.stop.Why.TheVariants.{Header}
use Rattle.ln_top.specs.Judges.Audit as audit
use Rattle.ln_top.specs.Judges.Audit.{AreJudged, AuditEnds, AuditSaid, HasTrace, IsAuditOf, IsRightTrace, IsWrongAt, PutsOrStops, audit_work}
use Rattle.ln_top.specs.Judges.Audit.{agreed_text, form, rule, wrong_text}
use Rattle.ln_top.specs.Frame.Carried as carried
use Rattle.ln_top.specs.Frame.Carried.{CarriesOut, NoPart, PutsText}
use Rattle.ln_rows.specs.Header.{columns_of, names_of}
use Rattle.ln_top.specs.Frame.Ready.{StandsFor}
use Rattle.ln_top.specs.Frame.Subject.{subject_of}
use Rattle.ln_rows.specs.Header.{IsWrongHeader}
use Rattle.ln_top.specs.Frame.Said.{Count, Said, whole}
use Rattle.ln_top.specs.Frame.Given.{Given}
use Rattle.ln_top.specs.Frame.Work as kind_of
use Rattle.ln_top.specs.Frame.Work.{IsWorkEnd}
use Rattle.ln_top.proofs.FrameLemmas.Loops.{Streams, faults_in}
use Rattle.ln_rows.proofs.HeaderLaws.{tail_same}
use Rattle.ln_top.proofs.FrameLemmas.Carry.{as_result, writes_carried}
use Rattle.ln_rows.proofs.HeaderLaws.{columns_like}
use Rattle.ln_compile.proofs.Numbers.{one_numbered}
use Rattle.ln_top.proofs.FrameLemmas.Laws.{IsLawful, one_by_said, shape_objects}
use Rattle.ln_top.specs.Frame.Stop.{said_of}
use Rattle.ln_top.specs.declared.frame.asked.Asked.TheVariants.{Nothing}

-- ---- two ways to see what is given are one
-- equal lists have equal first items
pub firsts_same : {A : Type 0} {x y : A} {xs ys : List A} → x ∷ xs ≡ y ∷ ys → x ≡ y
firsts_same e = cc

seconds_same : {A : Type 0} {x y z w : A} → x ∷ y ∷ [] ≡ z ∷ w ∷ [] → y ≡ w
seconds_same e = cc

module _ {g : Given} {p q : PredOf} {names others : List (List ℕ)} {rs ss : Records} {t u : List ℕ}
    (h : HasTrace g p names rs t) (k : HasTrace g q others ss u) where
  -- a trace is audited by only one predicate
  pub same_pred : p ≡ q
  same_pred = firsts_same (sym h.pred ∙ k.pred)

  -- the columns have only one list of names
  pub same_names : names ≡ others
  same_names = h.columns ∙ ap (columns_of g.table) same_pred ∙ sym k.columns

  -- the rows file has only one list of records
  pub same_records : rs ≡ ss
  same_records = sym h.are ∙ ap records_in (firsts_same (sym h.texts ∙ k.texts)) ∙ k.are

  -- only one text is the trace
  pub same_trace : t ≡ u
  same_trace = seconds_same (sym h.texts ∙ k.texts)

-- the header is right or wrong
wrong_right : {P : Type 0} {g : Given} {p q : PredOf} {names others : List (List ℕ)} {rs ss : Records} {t u : List ℕ}
    → HasTrace g p names rs t → IsWrongHeader names rs → HasTrace g q others (others ∷ ss) u → P
wrong_right h w k = absurd ((rw (same_records h k) at w) (sym (same_names h k)))

-- ---- one output
-- a trace isn't agreed and wrong
right_wrong : (p : PredOf) (records : Records) (trace : List ℕ) (at : ℕ) → IsRightTrace p records trace → IsWrongAt p records trace at → ⊥
right_wrong p records trace at h (form f) = no_text trace at h.lines f h.text
right_wrong p records trace at h (rule lines t f) =
    not-both (subject_of p) records h.lines at h.agreed
    (rw (one_text trace lines h.lines t h.text) at f)

-- and is wrong first at one line
one_line : (p : PredOf) (records : Records) (trace : List ℕ) (m n : ℕ) → IsWrongAt p records trace m → IsWrongAt p records trace n → m ≡ n
one_line p records trace m n (form f) (form k) = one_fault trace m n f k
one_line p records trace m n (form f) (rule lines t k) = absurd (no_text trace m lines f t)
one_line p records trace m n (rule lines t f) (form k) = absurd (no_text trace n lines k t)
one_line p records trace m n (rule lines t f) (rule others u k) =
    one-fault (subject_of p) records lines m n f
    (rw (one_text trace others lines u t) at k)

module _ {g : Given} {p q : PredOf} {names others : List (List ℕ)} {rs ss : Records} {t u : List ℕ}
    (h : HasTrace g p names (names ∷ rs) t) (k : HasTrace g q others (others ∷ ss) u) where
  rows : rs ≡ ss
  rows = tail_same (same_records h k)

  -- whether the trace is agreed doesn't depend on the way to see what is given
  pub moved_right : IsRightTrace p rs t → IsRightTrace q ss u
  moved_right r = rw (same_pred h k, rows, same_trace h k) at r

  -- the line at which the trace is first wrong doesn't depend on the way to see what is given
  pub moved_wrong : (at : ℕ) → IsWrongAt p rs t at → IsWrongAt q ss u at
  moved_wrong at r = rw (same_pred h k, rows, same_trace h k) at r

-- what it requires is one
pub one_said : (g : Given) (a b : Said) → AuditSaid g a → AuditSaid g b → a ≡ b
one_said g a b (audit.header p names rs t h x) (audit.header q others ss u k y) = refl
one_said g a b (audit.header p names rs t h x) (audit.agreed q others ss u k y) = wrong_right h x k
one_said g a b (audit.header p names rs t h x) (audit.wrong q others ss u n k y) = wrong_right h x k
one_said g a b (audit.agreed p names rs t h x) (audit.header q others ss u k y) = wrong_right k y h
one_said g a b (audit.agreed p names rs t h x) (audit.agreed q others ss u k y) =
    ap (λ (xs : Records). whole Done (agreed_text (length xs))) (rows h k)
one_said g a b (audit.agreed p names rs t h x) (audit.wrong q others ss u n k y) = absurd (right_wrong q ss u n (moved_right h k x) y)
one_said g a b (audit.wrong p names rs t m h x) (audit.header q others ss u k y) = wrong_right k y h
one_said g a b (audit.wrong p names rs t m h x) (audit.agreed q others ss u k y) = absurd (right_wrong q ss u m y (moved_wrong h k m x))
one_said g a b (audit.wrong p names rs t m h x) (audit.wrong q others ss u n k y) =
    ap (λ (z : ℕ). whole Invalid (wrong_text z)) (one_line q ss u m n (moved_wrong h k m x) y)

-- ---- where it ends
tells : (boxes : List State) (g : Given) (a : Said) → AuditSaid g a → AuditEnds g a.end
tells boxes g a (audit.header p names rs t h x) = audit.header p names rs t h x
tells boxes g a (audit.agreed p names rs t h x) = audit.agreed p names rs t h x
tells boxes g a (audit.wrong p names rs t m h x) = audit.wrong p names rs t m h x

said_at : (g : Given) (e : End) → AuditEnds g e → (a : Said) × AuditSaid g a × (a.end ≡ e)
said_at g e (audit.header p names rs t h x) = (_, audit.header p names rs t h x, refl)
said_at g e (audit.agreed p names rs t h x) = (_, audit.agreed p names rs t h x, refl)
said_at g e (audit.wrong p names rs t m h x) = (_, audit.wrong p names rs t m h x, refl)

kind : (g : Given) (e : End) → AuditEnds g e → IsWorkEnd e
kind g e (audit.header p names rs t h x) = kind_of.rows
kind g e (audit.agreed p names rs t h x) = kind_of.done
kind g e (audit.wrong p names rs t m h x) = kind_of.invalid

-- the laws of a work hold for `audit`
pub lawful : IsLawful Nothing audit_work
lawful = record {
  tells = tells;
  single = λ g. one_by_said (said_at g) (one_said g);
  kind = kind;
  objects = shape_objects;
  said = λ v boxes g i q. one_said g;
}

-- ---- from the code
-- the header is wrong
pub header_carried : (g : Given) (p : PredOf) (names : List (List ℕ)) (records : Records) (trace : List ℕ) (puts : Count)
    (result : Result End Early) (was now : Option Shown) → HasTrace g p names records trace → IsWrongHeader names records
    → carried.Says (stop.Tell Header) puts result was now → CarriesOut (AuditSaid g) NoPart ⊥ ⊥ puts result was now
header_carried g p names records trace puts result was now h w s =
    writes_carried (said_of Header) (audit.header p names records trace h w) (λ r. r) (λ r. r.1) (λ r. r.1) s

-- where the trace is agreed, writing the line `agreed N` carries out what is required
pub agreed_carried : {g : Given} {p : PredOf} {names : List (List ℕ)} {records : Records} {trace : List ℕ} {n : ℕ} {result : Result End Early}
    {was now : Streams} → HasTrace g p names (names ∷ records) trace → IsAuditOf p records trace (Agreed n)
    → PutsOrStops (agreed_text n) Done (faults_in was now) result was.shown now.shown
    → CarriesOut (AuditSaid g) NoPart ⊥ ⊥ (faults_in was now) result was.shown now.shown
agreed_carried {g = g} {p = p} {names = names} {records = records} {trace = trace} {n = n} {was = was} {now = now} h (r, e) s =
    writes_carried (whole Done (agreed_text n)) (rw e (audit.agreed p names records trace h r)) (λ q. q) (λ q. q) (λ q. q) s

-- where the trace is wrong, writing the line `wrong N` carries out what is required
pub wrong_carried : {g : Given} {p : PredOf} {names : List (List ℕ)} {records : Records} {trace : List ℕ} {at : ℕ} {result : Result End Early}
    {was now : Streams} → HasTrace g p names (names ∷ records) trace → IsAuditOf p records trace (Wrong at)
    → PutsOrStops (wrong_text at) Invalid (faults_in was now) result was.shown now.shown
    → CarriesOut (AuditSaid g) NoPart ⊥ ⊥ (faults_in was now) result was.shown now.shown
wrong_carried {g = g} {p = p} {names = names} {records = records} {trace = trace} {at = at} {was = was} {now = now} h r s =
    writes_carried (whole Invalid (wrong_text at)) (audit.wrong p names records trace at h r) (λ q. q) (λ q. q) (λ q. q) s

-- ---- what is judged
-- the lines of a trace that was opened
pub opened_judged : (p : PredOf) (records : Records) (trace : List ℕ) (u : Unread) (j : Judged) → IsOpened trace u
    → AreJudged p records u j → IsAuditOf p records trace j
opened_judged p records trace u (Agreed n) o h =
    let a = h o.read o.left in (record { lines = o.read; text = o.trace; agreed = a.0 }, a.1)
opened_judged p records trace u (Wrong at) o h = rule o.read o.trace (h o.read o.left)

-- what follows from two facts on the value of a result
pub then_both : {T E : Type 0} (r : Result T E) (P Q R : T → Type 0) → ((x : T) → P x → Q x → R x) → IfOk r P → IfOk r Q → IfOk r R
then_both (Ok x) P Q R f p q = f x p q
then_both (Err e) P Q R f p q = tt

-- the judge's expression is the predicate's root
pub judged_of : (p : Pred) (f : Sparse) (records : Records) (u : Unread) (j : Judged) → InputsBelow (length p.shape.vars) (root_of (pred_of p))
    → IsNormal (length p.shape.vars) (root_of (pred_of p)) f
    → ((e : Tree) (ls : List TraceLine) → HasPoly p.shape e f → AreLeft u ls → IsAnswer (traced.subject_of p.shape e) records ls (fault_of j))
    → ((e : Tree) (ls : List TraceLine) (n : ℕ) → HasPoly p.shape e f → AreLeft u ls → j ≡ Agreed n → n ≡ length records)
    → AreJudged (pred_of p) records u j
judged_of p f records u (Agreed n) i norm h c = λ ls l.
    let poly : HasPoly p.shape (root_of (pred_of p)) f = record { inputs = i; normal = norm.normal } in
    (h (root_of (pred_of p)) ls poly l, c (root_of (pred_of p)) ls n poly l refl)
judged_of p f records u (Wrong at) i norm h c = λ ls l.
    h (root_of (pred_of p)) ls (record { inputs = i; normal = norm.normal }) l

-- ---- what is given
-- the predicate with this number is the one that is given, over these two files
pub has_trace : (r : Ready) (g : Given) (p : Pred) (rows trace : List ℕ) (records : Records) → StandsFor r g
    → length r.numbers.items ≡ 1
    → slice_get r.compiled.table.preds (slice_index_or r.numbers.items 0 0) ≡ Some p → g.texts ≡ rows ∷ trace ∷ []
    → records ≡ records_in rows → HasTrace g (pred_of p) (names_of r.compiled.table p) records trace
has_trace r g p rows trace records s one e t q =
    let preds = one_numbered r.compiled.table.preds r.numbers.items g.preds p s.numbered one e in record {
      others = [];
      pred = preds;
      columns = columns_like r.compiled.table.sites r.compiled.table.params p.args
          ∙ ap (λ v. columns_of v (pred_of p)) (sym s.table);
      rows = rows;
      texts = t;
      are = sym q;
    }

-- the text that is written
pub puts_text : (text wanted : List ℕ) (end : End) (puts : Count) (result : Result End Early) (was now : Option Shown) → text ≡ wanted
    → PutsText text end puts result was now → PutsOrStops wanted end puts result was now
puts_text text wanted end puts result was now e s =
    as_result (λ r. r) (λ r. r) (λ r. absurd r) (rw e at s)
