-- The lines that were written are the perturbed signs of their rows with what decides them, and each is one line.
use Rattle.std.proofs.Common.{◌≡◌, ◌≢◌, ◌⊎◌, inl, inr, ℕ, List, [], ◌∷◌, ◌++◌, length, Option, None, Result, Ok, refl, ap}
use Rattle.std.proofs.Common.{◌∙◌, subst, sym}
use Rattle.std.specs.Prelude.{All}
use Rattle.std.proofs.lemmas.List.Elements.{All-head}
use Rattle.std.proofs.Math.IntN.{pos}
use Rattle.ln_base.specs.Outside.{Shown}
use Rattle.ln_base.specs.declared.sign.Sign.{Sign}
use Rattle.ln_base.specs.declared.sign.Sign.TheVariants.{Zero}
use Rattle.ln_algebra.proofs.Ordering.Admissible.{both-admissible}
use Rattle.ln_algebra.proofs.Ordering.First.{all-first-in}
use Rattle.ln_algebra.proofs.Expanded.Normal.{zero_cases}
use Rattle.ln_algebra.specs.Coefficient.{normal_coefficient}
use Rattle.ln_algebra.specs.Earlier.{Sites}
use Rattle.ln_top.specs.Signs.Run.{HasRecords}
use Rattle.ln_top.specs.Signs.Watching.{Watching, watching, last_of}
use Rattle.ln_top.specs.declared.words.Command.TheVariants.{Graded, Run}
use Rattle.ln_top.specs.Headline.{HasPerturbedSign, HavePerturbedSigns, none, more, PutSigns}
use Rattle.ln_top.specs.Perturbed.{IsSignOn}
use Rattle.ln_top.proofs.Theorem.Feeds.{HaveNoFeed, said_no_feed, columns_no_feed}
use Rattle.ln_top.proofs.Steps.TopLaws.{Worked}
use Rattle.ln_top.proofs.FrameLemmas.Grounded.{IsGrounded, each_found, in_memory}
use Rattle.ln_top.proofs.Steps.Grounded.{IsFine}
use Rattle.ln_parse.specs.ReadsBack.{Every}
use Rattle.ln_top.proofs.Theorem.ByValueLaws.{by_value}
use Rattle.ln_top.proofs.FrameLemmas.Lightness.{light_of}
use Rattle.ln_top.proofs.SignsLemmas.OneLine.{same_row, not_both}
use Rattle.ln_top.specs.Signs.Rows.{RowStep}
use Rattle.ln_top.specs.Signs.Signs.{RunLine, RunSaid}
use Rattle.ln_top.proofs.SignsLemmas.RowsLaws.{lines_err, of_rows}
use Rattle.ln_algebra.specs.Sign.{perturbed}
use Rattle.ln_algebra.specs.Tree.{Tree}
use Rattle.ln_tree.specs.declared.pred.Pred.{Pred}
use Rattle.ln_tree.specs.Row.{InRange, Row}
use Rattle.ln_tree.specs.Table.{PredOf, pred_of}
use Rattle.ln_bound.specs.Value.{values}
use Rattle.ln_order.specs.Rows.{RowFirst, RowSign}
use Rattle.ln_order.specs.Sites.{row_sites}
use Rattle.ln_rows.specs.Left.{Records}
use Rattle.ln_watch.specs.Panel.{State}
use Rattle.ln_rows.specs.Record.{read_row}
use Rattle.ln_rows.proofs.Fields.RangeLemmas.{row_in_range}
use Rattle.ln_rows.specs.declared.record.RowStop.{RowStop}
use Rattle.ln_code.specs.declared.verdict.Verdict.{Verdict}
use Rattle.ln_compile.specs.Accepted.{AreSound, IsSound, root_of}
use Rattle.ln_due.specs.Due.{sign_number}
use Rattle.ln_compile.specs.Filtered.{IsDueIn}
use Rattle.ln_algebra.specs.Orders.{Before, BySmallest, ByDegree, Rank}
use Rattle.ln_order.proofs.Signs.RowSigns.{rows-differ}
use Rattle.ln_due.proofs.Verdicts.UniqueLemmas.{due-sign, all-sites, sign-nonzero}
use Rattle.ln_top.specs.declared.frame.status.Status.{Status}
use Rattle.ln_top.specs.Frame.Said.{Said, line, put_both}
use Rattle.ln_top.specs.Frame.Given.{Given}
use Rattle.ln_top.specs.Target.Line.{said_text, Says, due, refused_}
use Rattle.ln_top.specs.Target.Target.{HasProgram}
use Rattle.ln_top.specs.Frame.Lines as l
use Rattle.ln_top.specs.Frame.Lines.{Lines}

-- ---- without params no row has the sign 0
module _ (rank : Rank) (p : Pred) (row : Row) where
  abbrev sites : Sites
  sites = row_sites p.shape.vars row.index

  abbrev root : Tree
  root = root_of (pred_of p)

  -- without params an accepted predicate doesn't have the sign 0 on a row in range, whichever the order of infinitesimals
  pub never_zero_in : InRange p.shape.sites p.shape.vars row → IsSound (pred_of p) → All (λ i. i.site ≢ None) p.shape.vars
      → (s : Sign) → RowSign rank p.shape.vars root row (sign_number s) → s ≢ Zero
  never_zero_in range sound all s d q = by_sign d
    where
      none_first : ((b : List ℕ) → RowFirst rank p.shape.vars root row b → ⊥) → (m : List ℕ)
          → length m ≡ length p.shape.vars
          → (normal_coefficient root m ≡ pos 0) ⊎ (normal_coefficient root m ≡ pos 0 → ⊥)
          → normal_coefficient root m ≡ pos 0
      none_first lacks m l (inl z) = z
      none_first lacks m l (inr z) =
          let order = both-admissible rank (length p.shape.vars) sites (rows-differ p.shape row range) in
          let first = all-first-in (length p.shape.vars) sites (Before rank sites) order (values row.values) root (light_of p sound).inputs
          (λ u k. all-sites p.shape.vars u all k) m (record { size = l; nonzero = z }) in
          absurd (lacks first.0 first.1)

      by_sign : RowSign rank p.shape.vars root row (sign_number s) → ⊥
      by_sign (inl t) = sign-nonzero (perturbed sites (values row.values) root t.0) t.1.nonzero (sym t.2 ∙ ap sign_number q)
      by_sign (inr t) = sound.nonzero (λ m l k. none_first t.0 m l (zero_cases (normal_coefficient root m)))

-- the same by the smallest infinitesimal in which two vectors differ
pub never_zero : (p : Pred) (row : Row) → InRange p.shape.sites p.shape.vars row → IsSound (pred_of p)
    → All (λ i. i.site ≢ None) p.shape.vars → (s : Sign) → IsSignOn BySmallest (pred_of p) row s → s ≢ Zero
never_zero p row = never_zero_in BySmallest p row

-- ---- lines
module _ (rank : Rank) (p : Pred) (sound : IsSound (pred_of p)) (names : List (List ℕ)) where
  due_sign : (row : Row) (v : Verdict) (text : List ℕ) (fields : List (List ℕ))
      → read_row p.shape.sites p.shape.vars fields ≡ Ok row → IsDueIn rank (pred_of p) row v
      → text ≡ line (said_text names (Ok v)) → HasPerturbedSign rank (pred_of p) row text
  due_sign row v text fields e d t =
      let range = row_in_range p.shape.sites p.shape.vars fields row p.shape.kept e in
      let sign = due-sign rank p.shape.vars (root_of (pred_of p)) row d.filtering v d.due in
      record {
        range = range;
        verdict = v;
        due = d;
        perturbed = sign;
        never_zero = λ all. never_zero_in rank p row range sound all v.sign sign;
        plain = λ z. by_value rank p.shape (pred_of p) row v refl refl range z d;
        text_is = t;
      }

  line_sign : (fields : List (List ℕ)) (text : List ℕ) {said : Result Verdict RowStop} → Says rank (pred_of p) fields said
      → text ≡ line (said_text names said) → (row : Row) → read_row p.shape.sites p.shape.vars fields ≡ Ok row
      → HasPerturbedSign rank (pred_of p) row text
  line_sign fields text (due r v e d) t row f =
      let q : r ≡ row = same_row r row (read_row p.shape.sites p.shape.vars fields) e f in
      subst (λ (z : Row). HasPerturbedSign rank (pred_of p) z text) q (due_sign r v text fields e d t)
  line_sign fields text (refused_ s e) t row f = absurd (not_both row s (read_row p.shape.sites p.shape.vars fields) f e)

  lines_signs : HaveNoFeed names → (records : Records) (out err : List ℕ) (w z : Watching)
      → Lines (RowStep (RunLine rank (pred_of p) names)) w records out err z → HavePerturbedSigns rank (pred_of p) records out
  lines_signs n [] out err w z (l.none _) = none
  lines_signs n (fields ∷ rest) out err w z (l.more {out = o2} {err = e2} _ o e m t k) =
      more o o2 (record { body = said_text names t.is.said; is = t.is.is; none = said_no_feed names t.is.said n })
      (λ row f. line_sign fields o t.is.says t.is.is row f) (lines_signs n rest o2 e2 m z k)

-- no predicate of an accepted source has a fault
sound_each : (ps : List PredOf) → AreSound ps → Every IsSound ps
sound_each [] s = tt
sound_each (p ∷ ps) s = (s.0, sound_each ps s.1)

-- the first of the given predicates has no fault
pub head_sound : (g : Given) (p : PredOf) (others : List PredOf) → IsGrounded g → g.preds ≡ p ∷ others → IsSound p
head_sound g p others h e =
    (subst (Every IsSound) e (each_found IsSound g.table.preds g.preds (sound_each g.table.preds h.sound) h.found)).0

-- what is required for records after the right header
run_signs : (rank : Rank) (boxes : List State) (g : Given) (p : PredOf) (names : List (List ℕ)) (records : Records) (a : Said)
    (was now : Option Shown) → IsGrounded g → RunSaid rank boxes g a → HasRecords g p names (names ∷ records)
    → now ≡ put_both a.out a.err was → PutSigns rank p records boxes was now
run_signs rank boxes g p names records a was now i o k e =
    let q = in_memory g p k.others i k.pred in
    let r = of_rows [] (RunLine rank) boxes g o k in
    let sound = subst IsSound (sym q.1) (head_sound g p k.others i k.pred) in
    let x = subst (λ t. Lines (RowStep (RunLine rank t names)) (watching 0 boxes) records r.out r.err r.left) (sym q.1) r.lines in
    let feed = columns_no_feed g q.0 p names i.table i.is q.1 k.columns in
    record {
      lines = r.out;
      signs =
          subst (λ t. HavePerturbedSigns rank t records r.out) q.1
          (lines_signs rank q.0 sound names feed records r.out r.err (watching 0 boxes) r.left x);
      err = r.err ++ last_of r.left;
      none = λ b. lines_err (RunLine rank p names) records r.out r.err (watching 0 boxes) r.left b r.lines;
      shown = e ∙ ap (λ (s : Said). put_both s.out s.err was) r.is;
    }

-- what `run` says has the perturbed signs
pub headline : {boxes : List State} {result : Status} {was now : Option Shown} (g : Given) → IsFine Run g
    → Worked Run boxes g result was now → (p : PredOf) (names : List (List ℕ)) (records : Records)
    → HasRecords g p names (names ∷ records) → PutSigns BySmallest p records boxes was now
headline g i w p names records k = run_signs BySmallest _ g p names records w.said _ _ i.grounded w.owed k w.shown

-- and what `graded` says by total degree first
pub graded_headline : {boxes : List State} {result : Status} {was now : Option Shown} (g : Given) → IsFine Graded g
    → Worked Graded boxes g result was now → (p : PredOf) (names : List (List ℕ)) (records : Records)
    → HasRecords g p names (names ∷ records) → PutSigns ByDegree p records [] was now × HasProgram ByDegree p
graded_headline g i w p names records k = (
  run_signs ByDegree [] g p names records w.said _ _ i.grounded w.owed.0 k w.shown,
  All-head (HasProgram ByDegree) p k.others (subst (All (HasProgram ByDegree)) k.pred w.owed.1),
)
