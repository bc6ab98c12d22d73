-- Work on records: what it requires is carried out by lines, has one end, and is one where each line is.
use Rattle.std.proofs.Common.{◌≡◌, ℕ, Bool, true, false, List, [], ◌∷◌, ◌++◌, refl, ap, sym, ◌∙◌, subst, Option, None, Ok, Err, arith}
use Rattle.std.proofs.lemmas.List.{append-nil}
use Rattle.ln_base.specs.Outside.{Shown}
use Rattle.ln_tree.specs.declared.pred.Pred.{Pred}
use Rattle.ln_tree.specs.Table.{PredOf, pred_of}
use Rattle.ln_code.specs.declared.verdict.Verdict.{Verdict}
use Rattle.ln_rows.specs.Left.{Records}
use Rattle.ln_watch.specs.Panel.{State, last_lines}
use Rattle.ln_top.specs.declared.frame.status.Early.TheVariants.{Write}
use Rattle.ln_top.specs.Frame.Said.{Said, count}
use Rattle.ln_top.specs.Frame.Given.{Given}
use Rattle.ln_top.specs.Target.Line.{is_row}
use Rattle.ln_top.specs.Frame.Lines as l
use Rattle.ln_top.specs.Frame.Lines.{Lines, Takes, WroteBoth, all_good, took, tore}
use Rattle.ln_top.specs.Signs.Run as run
use Rattle.ln_top.specs.Signs.Run.{HasRecords, RunEnds, end_of}
use Rattle.ln_top.specs.Signs.Rows as rows
use Rattle.ln_top.specs.Signs.Rows.{LineOf, RowStep, RowsPart, RowsSaid, SaysLine, rows_work, said_of_rows}
use Rattle.ln_top.specs.Signs.Watching.{Watching, watching, next_lines, next, last_of}
use Rattle.ln_rows.proofs.HeaderLaws.{tail_same}
use Rattle.ln_top.proofs.SignsLemmas.RunLaws.{ends_by, same_given, wrong_right}
use Rattle.ln_top.proofs.FrameLemmas.Loops.{StepTo, Written}
use Rattle.ln_top.proofs.SignsLemmas.WatchingLaws.{none_left, none_told}
use Rattle.ln_top.proofs.FrameLemmas.LinesLaws.{SameLines, no_last, one_lines, wrote_all, broke_off, lines_have}
use Rattle.ln_top.proofs.FrameLemmas.LinesCarry.{IsByLines, Task}
use Rattle.std.proofs.Common.{◌+◌, ◌<◌, length}
use Rattle.ln_top.proofs.FrameLemmas.HeadCarry.{IsHeaded, after_head}
use Rattle.ln_top.proofs.FrameLemmas.Laws.{IsLawful, IsNoUsage}
use Rattle.ln_top.proofs.FrameLemmas.Grounded.{IsGrounded, in_memory}
use Rattle.ln_top.specs.declared.frame.asked.Asked.{Asked}
use Rattle.ln_top.specs.Frame.Signature.{AreAsked}
use Rattle.ln_top.proofs.SignsLemmas.RunLaws as run_laws

-- a record was taken
pub takes_all : (line : LineOf) (p : PredOf) (names : List (List ℕ)) {fields : List (List ℕ)} {shown : Option Verdict} {out held grown : List ℕ}
    {before after : Watching} {n m : ℕ} {was now : Option Shown} {right : Bool} → line p names (before.seen + 1) fields shown out
    → grown ≡ held ++ out → WroteBoth [] (next_lines shown before) (count n m) true was now → after ≡ next shown before → right ≡ is_row p fields
    → Takes (RowStep (line p names)) (is_row p) before fields held grown after (count n m) (Ok right) was now
takes_all line p names {shown = shown} {out = out} {before = before} {n = n} {m = m} {was = was} {now = now} l g w a r =
    let e = wrote_all [] (next_lines shown before) (count n m) was now w in
    took out (next_lines shown before) e.0 (record { shown = shown; is = l; told = refl; left = a }) (ap Ok r) g e.1

-- the write of the watchers' lines for a record was cut off
pub takes_cut : (line : LineOf) (p : PredOf) (names : List (List ℕ)) {fields : List (List ℕ)} {shown : Option Verdict} {out held grown : List ℕ}
    {before after : Watching} {n m : ℕ} {was now : Option Shown} → line p names (before.seen + 1) fields shown out
    → grown ≡ held ++ out → WroteBoth [] (next_lines shown before) (count n m) false was now
    → Takes (RowStep (line p names)) (is_row p) before fields held grown after (count n m) (Err Write) was now
takes_cut line p names {shown = shown} {out = out} {before = before} {n = n} {m = m} {was = was} {now = now} l g w =
    let e = broke_off [] (next_lines shown before) (count n m) was now w in
    tore out (next_lines shown before) (next shown before) (record { shown = shown; is = l; told = refl; left = refl }) e.0 refl e.1

-- each record has a line
abbrev pub HasLines : LineOf → PredOf → List (List ℕ) → Type 0
HasLines line p names = (n : ℕ) (fields : List (List ℕ)) → (shown : Option Verdict) × (text : List ℕ) × line p names n fields shown text

-- what is required after the first text
abbrev pub RowsRest : List ℕ → LineOf → List State → Given → Said → Type 0
RowsRest first line boxes g said = RowsSaid first line boxes g (after_head first said)

-- and the part that may be left
abbrev pub RowsRestPart : List ℕ → LineOf → List State → Given → List ℕ → List ℕ → Type 0
RowsRestPart first line boxes g out err = RowsPart first line boxes g (first ++ out) err

module _ (first : List ℕ) (line : LineOf) (p : PredOf) (names : List (List ℕ)) (there : HasLines line p names) (boxes : List State) (g : Given)
    (records : Records) (h : HasRecords g p names (names ∷ records)) where
  -- after the first text a line for each record, and at the end the lines of the watchers that remain
  abbrev task : Task Watching (List (List ℕ))
  task = record {
    work = record { step = RowStep (line p names); good = is_row p };
    last_out = no_last;
    last_err = last_of;
    ends = end_of;
    state = watching 0 boxes;
    records = records;
    owes = RowsRest first line boxes g;
    part = RowsRestPart first line boxes g;
  }

  -- what it requires is by lines
  pub by_lines : IsByLines task
  by_lines = record {
    has = λ s fields.
        let one = there (s.seen + 1) fields in
        (one.1, next_lines one.0 s, next one.0 s, record { shown = one.0; is = one.2; told = refl; left = refl });
    whole = λ out err z d.
        subst (λ x. RowsRest first line boxes g (record { end = end_of (all_good (is_row p) records); out = x; err = err ++ last_of z }))
        (sym (append-nil out)) (rows.ran p names records out err z h d);
    first = λ done left out err z e d.
        rows.begun p names done left out z (subst (λ (rs : Records). HasRecords g p names (names ∷ rs)) e h) d refl;
  }

  -- the first text is before it
  pub headed : IsHeaded (record {
    head = first;
    owes = RowsSaid first line boxes g;
    rest = RowsRest first line boxes g;
    part = RowsPart first line boxes g;
    more = RowsRestPart first line boxes g;
  })
  headed =
      let all = lines_have (RowStep (line p names)) by_lines.has (watching 0 boxes) records in record {
        whole = λ said r. r;
        parts = λ out err q. q;
        alone = rows.begun p names [] records [] (watching 0 boxes) h (l.none (watching 0 boxes)) (sym (append-nil first));
        said = record { end = end_of (all_good (is_row p) records); out = all.out ++ []; err = all.err ++ last_of all.left };
        owed = by_lines.whole all.out all.err all.left all.lines;
      }

-- where it ends
pub tells : (first : List ℕ) (line : LineOf) (boxes : List State) (g : Given) (a : Said) → RowsSaid first line boxes g a → RunEnds g a.end
tells first line boxes g a (rows.header p names records h x) = run.wrong p names records h x
tells first line boxes g a (rows.ran p names records out err z h x) = ends_by p names records g h

-- ---- what is required is one where each line is
-- two ways to show a verdict and a text are one
pub record SameLine (x y : Option Verdict) (a b : List ℕ) : Type 0 where
  pub text : a ≡ b
  pub lines : (w : Watching) → next_lines x w ≡ next_lines y w
  pub lefts : (w : Watching) → next x w ≡ next y w

-- a record has one line
abbrev pub HasOneLine : LineOf → PredOf → List (List ℕ) → Type 0
HasOneLine line p names =
    (n : ℕ) (fields : List (List ℕ)) (x y : Option Verdict) (a b : List ℕ) → line p names n fields x a → line p names n fields y b
    → SameLine x y a b

-- nothing is shown with one text
pub unseen : {a b : List ℕ} → a ≡ b → SameLine None None a b
unseen e = record { text = e; lines = λ w. refl; lefts = λ w. refl }

-- a line of what is said is one where two things that are true of the record are shown and written alike
pub one_line : {T : Type 0} {IsTrueOf : T → Type 0} {verdict_in : T → Option Verdict} {text_for : T → List ℕ} {x y : Option Verdict}
    {a b : List ℕ} → ((s t : T) → IsTrueOf s → IsTrueOf t → SameLine (verdict_in s) (verdict_in t) (text_for s) (text_for t))
    → SaysLine IsTrueOf verdict_in text_for x a → SaysLine IsTrueOf verdict_in text_for y b → SameLine x y a b
one_line o l k =
    let same = o l.said k.said l.says k.says in
    record {
      text = l.is ∙ same.text ∙ sym k.is;
      lines = λ w. ap (λ s. next_lines s w) l.shows ∙ same.lines w ∙ ap (λ s. next_lines s w) (sym k.shows);
      lefts = λ w. ap (λ s. next s w) l.shows ∙ same.lefts w ∙ ap (λ s. next s w) (sym k.shows);
    }

one_step : (line : LineOf) (p : PredOf) (names : List (List ℕ)) → HasOneLine line p names → (w : Watching) (fields : List (List ℕ))
    (a b : Written Watching) → StepTo (RowStep (line p names)) w fields a → StepTo (RowStep (line p names)) w fields b → SameLines a b
one_step line p names o w fields a b s t =
    let same = o (w.seen + 1) fields s.shown t.shown a.out b.out s.is t.is in
    record { outs = same.text; errs = s.told ∙ same.lines w ∙ sym t.told; lefts = s.left ∙ same.lefts w ∙ sym t.left }

-- what is required for records after the right header comes of the lines of those records
pub record IsOfRows (first : List ℕ) (line : LineOf) (boxes : List State) (p : PredOf) (names : List (List ℕ)) (records : Records) (a : Said) : Type 0 where
  pub out : List ℕ
  pub err : List ℕ
  pub left : Watching
  pub lines : Lines (RowStep (line p names)) (watching 0 boxes) records out err left
  pub is : a ≡ said_of_rows first p records out err left

-- a record of what is given has one line
abbrev pub HaveOneLine : LineOf → Given → Type 0
HaveOneLine line g =
    (q : Pred) (others : List PredOf) → g.preds ≡ pred_of q ∷ others → (names : List (List ℕ)) → HasOneLine line (pred_of q) names

module _ (first : List ℕ) (line : LineOf) (boxes : List State) (g : Given) where
  -- what is required of given records is of their lines
  pub of_rows : {p : PredOf} {names : List (List ℕ)} {records : Records} {a : Said} → RowsSaid first line boxes g a
      → HasRecords g p names (names ∷ records) → IsOfRows first line boxes p names records a
  of_rows (rows.header q ns rs h x) k = wrong_right h x k
  of_rows {p = p} {names = names} {records = records} (rows.ran q ns rs out err z h d) k =
      let same = same_given h k in
      let rest : rs ≡ records = tail_same same.2 in
      record {
        out = out;
        err = err;
        left = z;
        lines = rw (same.0, same.1, rest) at d;
        is = rw (same.0, rest) refl;
      }

  -- where a record has one line, one thing is required
  pub rows_one : IsGrounded g → HaveOneLine line g → (a b : Said) → RowsSaid first line boxes g a → RowsSaid first line boxes g b → a ≡ b
  rows_one i o a b (rows.header p names rs h x) (rows.header q ns ss k y) = refl
  rows_one i o a b (rows.header p names rs h x) (rows.ran q ns ss out err z k d) = wrong_right h x k
  rows_one i o a b (rows.ran p names rs out err z h d) y =
      let there = of_rows y h in
      let q = in_memory g p h.others i h.pred in
      let one : HasOneLine line p names =
      subst (λ t. HasOneLine line t names) q.1 (o q.0 h.others (h.pred ∙ ap (λ t. t ∷ h.others) (sym q.1)) names) in
      let same = one_lines (RowStep (line p names)) (one_step line p names one) (watching 0 boxes) rs
      (record { out = out; err = err; left = z }) (record { out = there.out; err = there.err; left = there.left }) d there.lines in
      ap (λ (t : List ℕ). said_of_rows first p rs t err z) same.outs
      ∙ ap (λ (t : List ℕ). said_of_rows first p rs there.out t z) same.errs
      ∙ ap (λ (t : Watching). said_of_rows first p rs there.out there.err t) same.lefts ∙ sym there.is

-- the laws of a work hold for a command that writes lines of records, where a record has one line
pub lawful_rows : (suits : Asked) (first : List ℕ) (line : List PredOf → LineOf) (seers : List State → List State) → IsNoUsage suits
    → ((g : Given) → IsGrounded g → AreAsked suits g.preds → HaveOneLine (line g.preds) g) → IsLawful suits (rows_work first line seers)
lawful_rows suits first line seers n o = record {
  tells = λ boxes g. tells first (line g.preds) (seers boxes) g;
  single = run_laws.one;
  kind = run_laws.kind;
  objects = n;
  said = λ v boxes g i s. rows_one first (line g.preds) (seers boxes) g i (o g i s);
}

-- where no watcher is handed in, none remains and nothing comes to Err
pub lines_err : (line : ℕ → List (List ℕ) → Option Verdict → List ℕ → Type 0) (records : Records) (out err : List ℕ) (w z : Watching) → w.boxes ≡ []
    → Lines (RowStep line) w records out err z → err ++ last_of z ≡ []
lines_err line [] out err w z b (l.none _) = ap last_lines b
lines_err line (fields ∷ rest) out err w z b (l.more {out = o2} {err = e2} _ o e m t k) =
    let blank : e ≡ [] = t.told ∙ none_told (w.seen + 1) t.shown w.boxes b in
    let gone : m.boxes ≡ [] = ap (λ (x : Watching). x.boxes) t.left ∙ none_left (w.seen + 1) t.shown w.boxes b in
    ap (λ x. (x ++ e2) ++ last_of z) blank ∙ lines_err line rest o2 e2 m z gone k

-- ---- numbers of records
-- fewer records remain after the first
pub fewer : (first : List (List ℕ)) (records rest : Records) → records ≡ first ∷ rest → length records < 4294967296
    → length rest < 4294967296
fewer first records rest e h = omega (arith, ap length e, h)

-- the number of a record that remains
pub next_few : (seen all : ℕ) (fields : List (List ℕ)) (left rest : Records) → seen + length left ≡ all → left ≡ fields ∷ rest
    → all < 4294967296 → seen + 1 < 4294967296
next_few seen all fields left rest e h k = omega (arith, e, ap length h, k)

-- a record more was seen
pub counted_on : (seen next all : ℕ) (fields : List (List ℕ)) (left rest : Records) → next ≡ seen + 1 → seen + length left ≡ all
    → left ≡ fields ∷ rest → next + length rest ≡ all
counted_on seen next all fields left rest n e h = omega (arith, n, e, ap length h)
