-- The trace that was written explains the records, and a judge and `audit` agree to it.
use Rattle.std.proofs.Common.{◌≡◌, inl, inr, List, [], ◌∷◌, ◌++◌, ℕ, ◌+◌, ◌^◌, ◌<◌, ◌≤◌, length, Option}
use Rattle.std.proofs.Common.{refl, ap, sym, ◌∙◌, subst, append_assoc, arith}
use Rattle.std.proofs.lemmas.Bool.{cases_lt}
use Rattle.std.proofs.Math.IntN.{pos}
use Rattle.ln_base.specs.Outside.{Shown}
use Rattle.ln_algebra.proofs.Expanded.Expansion.{length-zeros}
use Rattle.ln_algebra.proofs.Expanded.Normal.{zero_cases}
use Rattle.ln_algebra.proofs.Vectors.Zeros.{covers-zeros}
use Rattle.ln_algebra.specs.Coefficient.{normal_coefficient}
use Rattle.ln_algebra.specs.Orders.{BySmallest}
use Rattle.ln_algebra.specs.Stage.{IsStage}
use Rattle.ln_algebra.specs.Vector.{zeros}
use Rattle.ln_algebra.specs.Weights.{weighted_sum}
use Rattle.ln_algebra.proofs.Walking.Stages.{zeros-get}
use Rattle.ln_base.specs.Exponents.{Each}
use Rattle.ln_bound.specs.Light.{most}
use Rattle.ln_bound.specs.Value.{weights}
use Rattle.ln_compile.specs.Accepted.{IsSound, root_of}
use Rattle.ln_order.specs.Sites.{row_sites}
use Rattle.ln_stage.proofs.Sights.Members.{none-before}
use Rattle.ln_poly.proofs.Expansions.Existing.{tree-normal}
use Rattle.ln_poly.specs.Expansion.{IsNormal}
use Rattle.ln_poly.specs.Sparse.{Sparse, terms_of}
use Rattle.ln_tree.specs.declared.pred.Pred.{Pred}
use Rattle.ln_tree.specs.Table.{PredOf, pred_of}
use Rattle.ln_tree.proofs.KeptLemmas.{few_vars}
use Rattle.ln_rows.specs.Left.{Records}
use Rattle.ln_trace.specs.declared.line.TraceLine.{TraceLine}
use Rattle.ln_trace.specs.Signs.{AreExplained, HaveStages}
use Rattle.ln_trace.proofs.Agreeing.{agreed-right, explained-agreed}
use Rattle.ln_trace.proofs.Explaining.{explained-trace}
use Rattle.ln_trace.proofs.SmallValues.{explained-small}
use Rattle.ln_trace.specs.Form.{TraceText}
use Rattle.ln_trace.specs.FormLaw.{HasSmallSum, HasSmallValue}
use Rattle.ln_trace.specs.Text.{first_line, text_of_line, text_of_lines}
use Rattle.ln_watch.specs.Panel.{State}
use Rattle.ln_top.specs.declared.frame.status.Status.{Status}
use Rattle.ln_top.specs.declared.words.Command.TheVariants as command
use Rattle.ln_top.specs.Signs.Explain.{ExplainSaid, ExplainLine}
use Rattle.ln_top.specs.Frame.Subject.{subject_of}
use Rattle.ln_top.specs.Explained.{PutTrace}
use Rattle.ln_top.specs.Judges.Audit as audit
use Rattle.ln_top.specs.Frame.Lines as l
use Rattle.ln_top.specs.Frame.Lines.{Lines}
use Rattle.ln_top.specs.Signs.Run.{HasRecords}
use Rattle.ln_top.specs.Frame.Said.{Said, put_both}
use Rattle.ln_top.specs.Frame.Given.{Given}
use Rattle.ln_top.proofs.SignsLemmas.ExplainLaws.{rows_differ}
use Rattle.ln_top.proofs.SignsLemmas.FewRecords.{few_in}
use Rattle.ln_top.proofs.FrameLemmas.Grounded.{IsGrounded, in_memory}
use Rattle.ln_top.proofs.Steps.Grounded.{IsFine}
use Rattle.ln_top.proofs.Steps.TopLaws.{Worked}
use Rattle.ln_top.proofs.Theorem.HeadlineLaws.{head_sound}
use Rattle.ln_top.proofs.FrameLemmas.Lightness.{light_of}
use Rattle.ln_top.proofs.FrameLemmas.ReadyLaws.{one_short}
use Rattle.ln_top.specs.Frame.Ready.{AreShort}
use Rattle.ln_top.specs.Signs.Rows.{RowStep}
use Rattle.ln_top.specs.Signs.Watching.{Watching, watching}
use Rattle.ln_top.proofs.SignsLemmas.RowsLaws.{lines_err, of_rows}

-- the texts of lines, one after the other
pub texts_join : (xs ys : List TraceLine) → text_of_lines (xs ++ ys) ≡ text_of_lines xs ++ text_of_lines ys
texts_join [] ys = refl
texts_join (x ∷ xs) ys = ap (λ t. text_of_line x ++ t) (texts_join xs ys) ∙ sym (append_assoc (text_of_line x) (text_of_lines xs) (text_of_lines ys))

-- steps one after the other explain all records
pub record Told (p : PredOf) (seen : ℕ) (records : Records) (out : List ℕ) : Type 0 where
  pub lines : List TraceLine
  pub are : AreExplained (subject_of p) (seen + 1) records lines
  pub text : out ≡ text_of_lines lines

-- what is written for records, one after the other, is the text of lines that explain them
pub all_told : (p : PredOf) (names : List (List ℕ)) (w z : Watching) (records : Records) (out err : List ℕ)
    → Lines (RowStep (ExplainLine p names)) w records out err z → Told p w.seen records out
all_told p names w z [] out err (l.none _) = record { lines = []; are = refl; text = refl }
all_told p names w z (fields ∷ rest) out err (l.more {out = o2} {err = e2} _ o e m t k) =
    let u = all_told p names m z rest o2 e2 k in
    let seen : m.seen ≡ w.seen + 1 = ap (λ (x : Watching). x.seen) t.left in
    record {
      lines = t.is.said ++ u.lines;
      are = (
        t.is.said,
        u.lines,
        t.is.says,
        subst (λ (n : ℕ). AreExplained (subject_of p) (n + 1) rest u.lines) seen u.are,
        refl,
      );
      text = ap (λ x. x ++ o2) t.is.is ∙ ap (λ x. text_of_lines t.is.said ++ x) u.text ∙ sym (texts_join t.is.said u.lines);
    }

-- ---- a predicate of an accepted source
-- a row has some stage
pub have_stages : (q : Pred) → IsSound (pred_of q) → HaveStages (subject_of (pred_of q))
have_stages q sound row list h e =
    sound.nonzero (λ m l k. elim (zero_cases (normal_coefficient (root_of (pred_of q)) m)) [
      | inl z ↦ z
      | inr z ↦ absurd (rw e at (h.all (zeros (length q.shape.vars)) (stage m l z)))
    ])
  where
    stage : (m : List ℕ) → length m ≡ length q.shape.vars → (normal_coefficient (root_of (pred_of q)) m ≡ pos 0 → ⊥)
        → IsStage (length q.shape.vars) (row_sites q.shape.vars row.index) (root_of (pred_of q)) (zeros (length q.shape.vars))
    stage m l z = record {
      over = record { size = length-zeros (length q.shape.vars); of_sites = λ v f. zeros-get (length q.shape.vars) v };
      covered = (m, record { size = l; nonzero = z }, covers-zeros m (length q.shape.vars) l);
      before_cut = λ b o c f. none-before BySmallest (length q.shape.vars) (row_sites q.shape.vars row.index) b f;
    }

-- where it isn't too large as a whole, the weighted sum of its normal polynomial is within the limit
whole-small : (p : PredOf) → IsSound p → (f : Sparse) → IsNormal (length p.vars) (root_of p) f
    → weighted_sum (weights p.vars) (terms_of (length p.vars) f) ≤ most
whole-small p sound f n = elim (cases_lt most (weighted_sum (weights p.vars) (terms_of (length p.vars) f))) [
  | inl l ↦ absurd (sound.whole (record { poly = f; normal = n; heavy = l }))
  | inr l ↦ l
]

-- so no coefficient on a row is too large
small_sum : (q : Pred) → IsSound (pred_of q) → HasSmallSum (subject_of (pred_of q))
small_sum q sound =
    let light = light_of q sound in
    let f = tree-normal (length q.shape.vars) (root_of (pred_of q)) light in
    record { inputs = light.inputs; poly = f.0; normal = f.1.normal; light = whole-small (pred_of q) sound f.0 f.1 }

-- what is explained of fewer than 2^32 records is the text of a trace
trace_text : (q : Pred) → IsSound (pred_of q) → (records : Records) (lines : List TraceLine) → length records < 2 ^ 32
    → AreExplained (subject_of (pred_of q)) 1 records lines → TraceText (first_line ++ text_of_lines lines) lines
trace_text q sound records lines few e =
    let small : Each HasSmallValue lines = explained-small (subject_of (pred_of q)) records lines q.shape.kept (small_sum q sound) e in
    explained-trace (subject_of (pred_of q)) records lines (have_stages q sound) (few_vars q.shape.sites q.shape.vars q.shape.kept) few e small

-- what is written for records
trace_of : (q : Pred) (records : Records) (out : List ℕ) (was now : Option Shown) → IsSound (pred_of q) → length records < 2 ^ 32
    → Told (pred_of q) 0 records out → now ≡ put_both (first_line ++ out) [] was → PutTrace (pred_of q) records was now
trace_of q records out was now sound few t e =
    let agreed = explained-agreed (subject_of (pred_of q)) (rows_differ q) (have_stages q sound) records t.lines t.are in
    let text = trace_text q sound records t.lines few t.are in
    record {
      lines = t.lines;
      explained = t.are;
      text = text;
      agreed = agreed;
      right = agreed-right (subject_of (pred_of q)) records t.lines (light_of q sound).inputs (rows_differ q) agreed;
      audited =
          λ h names k. audit.agreed (pred_of q) names records (first_line ++ text_of_lines t.lines) k
          (record { lines = t.lines; text = text; agreed = agreed });
      shown = e ∙ ap (λ (z : List ℕ). put_both (first_line ++ z) [] was) t.text;
    }

-- records that were read from files within their limit are fewer than 2^32
few_records_in : (g : Given) (p : PredOf) (names : List (List ℕ)) (records : Records) → AreShort g.texts
    → HasRecords g p names (names ∷ records) → length records < 2 ^ 32
few_records_in g p names records short k =
    let few : length (names ∷ records) < 4294967296 = few_in k.rows (names ∷ records) (sym k.are) (one_short g.texts k.rows k.text short) in
    omega (arith, few)

-- what is required for records after the right header
put_trace : (g : Given) (p : PredOf) (names : List (List ℕ)) (records : Records) (a : Said) (was now : Option Shown) → IsGrounded g
    → AreShort g.texts → ExplainSaid g a → HasRecords g p names (names ∷ records) → now ≡ put_both a.out a.err was → PutTrace p records was now
put_trace g p names records a was now i short o k e =
    let q = in_memory g p k.others i k.pred in
    let r = of_rows first_line ExplainLine [] g o k in
    let silent = lines_err (ExplainLine p names) records r.out r.err (watching 0 []) r.left refl r.lines in
    let told = all_told p names (watching 0 []) r.left records r.out r.err r.lines in
    subst (λ (x : PredOf). PutTrace x records was now) q.1 (trace_of q.0 records r.out was now
    (subst IsSound (sym q.1) (head_sound g p k.others i k.pred)) (few_records_in g p names records short k)
    (subst (λ (x : PredOf). Told x 0 records r.out) (sym q.1) told)
    (e ∙ ap (λ (s : Said). put_both s.out s.err was) r.is ∙ ap (λ (t : List ℕ). put_both (first_line ++ r.out) t was) silent))

-- what `explain` says explains the records
pub explained : {boxes : List State} {result : Status} {was now : Option Shown} (g : Given) → IsFine command.Explain g
    → Worked command.Explain boxes g result was now → (p : PredOf) (names : List (List ℕ)) (records : Records)
    → HasRecords g p names (names ∷ records) → PutTrace p records was now
explained g i w p names records k = put_trace g p names records w.said _ _ i.grounded i.short w.owed k w.shown
