-- The lines of products that were written begin with the perturbed signs of the products, and each is one line.
use Rattle.std.proofs.Common.{◌≡◌, ◌≢◌, inl, inr, ℕ, zero, suc, true, List, [], ◌∷◌, ◌++◌, map, length, Option, Some}
use Rattle.std.proofs.Common.{Result, Ok, Err, refl, ap, sym, ◌∙◌, subst}
use Rattle.std.specs.Prelude.{All, slice_get}
use Rattle.std.proofs.Math.IntN.{ℤ}
use Rattle.std.proofs.lemmas.List.Elements.{All-nil}
use Rattle.std.proofs.lemmas.Option.{none-some}
use Rattle.ln_base.specs.Outside.{Shown}
use Rattle.ln_base.specs.declared.sign.Sign.{Sign}
use Rattle.ln_base.specs.declared.sign.Sign.TheVariants.{Zero}
use Rattle.ln_algebra.specs.Orders.{BySmallest}
use Rattle.ln_algebra.specs.Product.{OneIsZero}
use Rattle.ln_algebra.specs.Sign.{IsFirst}
use Rattle.ln_tree.specs.declared.pred.Pred.{Pred}
use Rattle.ln_tree.specs.declared.shape.Shape.{Shape}
use Rattle.ln_tree.specs.declared.shape.VarInfo.{VarInfo}
use Rattle.ln_tree.specs.Row.{InRange, Row}
use Rattle.ln_tree.specs.Table.{PredOf, pred_of}
use Rattle.ln_bound.specs.Value.{values}
use Rattle.ln_order.specs.Rows.{RowSign}
use Rattle.ln_order.specs.Sites.{row_sites}
use Rattle.ln_order.proofs.Signs.RowSigns.{row_sign-unique}
use Rattle.ln_parse.specs.ReadsBack.{Every}
use Rattle.ln_code.specs.declared.verdict.Verdict.{Verdict}
use Rattle.ln_due.specs.Due.{sign_number}
use Rattle.ln_due.proofs.Verdicts.UniqueLemmas.{due-sign, sign-number-same}
use Rattle.ln_factor.specs.Factors.{numbers_of}
use Rattle.ln_factor.specs.Law.{AreRowSigns}
use Rattle.ln_factor.proofs.Sums.{firsts-are-sums, signs-are-products, zero-where-one-is}
use Rattle.ln_compile.specs.Accepted.{root_of}
use Rattle.ln_compile.specs.Filtered.{IsDue}
use Rattle.ln_rows.specs.Left.{Records}
use Rattle.ln_rows.specs.Record.{read_row}
use Rattle.ln_rows.specs.declared.record.RowStop.{RowStop}
use Rattle.ln_rows.proofs.Fields.RangeLemmas.{row_in_range}
use Rattle.ln_watch.specs.Panel.{State}
use Rattle.ln_top.specs.declared.frame.status.Status.{Status}
use Rattle.ln_top.specs.Frame.Said.{Said, line, put_both}
use Rattle.ln_top.specs.Frame.Given.{Given}
use Rattle.ln_top.specs.Target.Alike.{are_alike}
use Rattle.ln_top.specs.Target.Line.{decider_text, due, refused_, sign_text}
use Rattle.ln_top.specs.Target.Target.{HasProgram}
use Rattle.ln_top.specs.Signs.Product.{AreDue, IsMultiplied, Multiplied, ProductSaid, SaysProduct, ProductLine}
use Rattle.ln_top.specs.Signs.Product.{deciders_after, product_text}
use Rattle.ln_top.specs.Products.{HasProductSign, HasSummedFirsts, HaveProductSigns, OneIsZeroOn, PutProducts}
use Rattle.ln_top.specs.Products.{none, more, product_of}
use Rattle.ln_top.specs.Signs.Run.{HasRecords}
use Rattle.ln_top.specs.declared.words.Command.TheVariants.{Product}
use Rattle.ln_top.proofs.TargetLemmas.FactorsLaws.{IsOver}
use Rattle.ln_top.proofs.SignsLemmas.ProductLaws.{all_over}
use Rattle.ln_top.proofs.Theorem.Feeds.{HaveNoFeed, before, behind, columns_no_feed, decider_feed, other, sign_feed, stop_feed}
use Rattle.ln_top.proofs.Steps.TopLaws.{Worked}
use Rattle.ln_top.proofs.FrameLemmas.Grounded.{IsGrounded, in_memory}
use Rattle.ln_top.proofs.Steps.Grounded.{IsFine}
use Rattle.ln_top.proofs.SignsLemmas.OneLine.{same_row, not_both}
use Rattle.ln_top.specs.Signs.Rows.{RowStep}
use Rattle.ln_top.specs.Signs.Watching.{Watching, watching}
use Rattle.ln_top.proofs.SignsLemmas.RowsLaws.{lines_err, of_rows}
use Rattle.ln_top.specs.Frame.Lines as l
use Rattle.ln_top.specs.Frame.Lines.{Lines}
use Rattle.ln_top.specs.Headline.{NoFeed}
use Rattle.ln_top.specs.Perturbed.{IsSignOn}

-- ---- signs
module _ (sites : ℕ) (vars : List VarInfo) (row : Row) where
  sign_over : (p : PredOf) (v : Verdict) → IsOver sites vars p → IsDue p row v
      → RowSign BySmallest vars (root_of p) row (sign_number v.sign)
  sign_over p v o d =
      subst (λ (w : List VarInfo). RowSign BySmallest w (root_of p) row (sign_number v.sign)) o.1
      (due-sign BySmallest p.vars (root_of p) row d.filtering v d.due)

  signs_over : (ps : List PredOf) (vs : List Verdict) → Every (IsOver sites vars) ps → AreDue ps row vs
      → AreRowSigns BySmallest vars (map root_of ps) row (numbers_of vs)
  signs_over [] [] o d = tt
  signs_over [] (v ∷ vs) o d = absurd d
  signs_over (p ∷ ps) [] o d = absurd d
  signs_over (p ∷ ps) (v ∷ vs) o d = (sign_over p v o.0 d.0, signs_over ps vs o.1 d.1)

-- a verdict with the sign 0 is that of a factor with the sign 0
zero_of : (ps : List PredOf) (row : Row) (vs : List Verdict) → AreDue ps row vs → OneIsZero (numbers_of vs) → OneIsZeroOn ps row
zero_of [] row [] d h = absurd h
zero_of [] row (v ∷ vs) d h = absurd d
zero_of (p ∷ ps) row [] d h = absurd d
zero_of (p ∷ ps) row (v ∷ vs) d (inl z) = record {
  k = 0;
  pred = p;
  there = refl;
  zero = subst (λ (s : Sign). IsSignOn BySmallest p row s) (sign-number-same v.sign Zero z)
      (due-sign BySmallest p.vars (root_of p) row d.0.filtering v d.0.due);
}
zero_of (p ∷ ps) row (v ∷ vs) d (inr h) =
    let r = zero_of ps row vs d.1 h in
    record { k = suc r.k; pred = r.pred; there = r.there; zero = r.zero }

-- and the other way round
zero_from : (s : Shape) (row : Row) → InRange s.sites s.vars row → (ps : List PredOf) (vs : List Verdict)
    → Every (IsOver s.sites s.vars) ps → AreDue ps row vs → (k : ℕ) (x : PredOf) → slice_get ps k ≡ Some x → IsSignOn BySmallest x row Zero
    → OneIsZero (numbers_of vs)
zero_from s row r [] vs o d k x e z = absurd (none-some x e)
zero_from s row r (p ∷ ps) [] o d k x e z = absurd d
zero_from s row r (p ∷ ps) (v ∷ vs) o d zero x e z =
    let same : p ≡ x = cc in
    let here : RowSign BySmallest p.vars (root_of p) row (sign_number Zero) =
    subst (λ (y : PredOf). RowSign BySmallest y.vars (root_of y) row (sign_number Zero)) (sym same) z in
    let there = subst (λ (w : List VarInfo). RowSign BySmallest w (root_of p) row (sign_number Zero)) o.0.1 here in
    inl (row_sign-unique BySmallest s (root_of p) row (sign_number v.sign) (sign_number Zero) r
    (sign_over s.sites s.vars row p v o.0 d.0) there)
zero_from s row r (p ∷ ps) (v ∷ vs) o d (suc k) x e z = inr (zero_from s row r ps vs o.1 d.1 k x e z)

-- ---- lines
deciders_feed : (byte : ℕ) (vs : List Verdict) → byte ≢ 10 → NoFeed (deciders_after byte vs)
deciders_feed byte [] h = All-nil (λ b. b ≢ 10)
deciders_feed byte (v ∷ vs) h =
    before byte (decider_text v.by ++ deciders_after 44 vs) h
    (behind (decider_text v.by) (deciders_after 44 vs) (decider_feed v.by) (deciders_feed 44 vs (other 44 refl)))

product_feed : (names : List (List ℕ)) (said : Result Multiplied RowStop) → HaveNoFeed names → NoFeed (product_text names said)
product_feed names (Ok m) f =
    behind (sign_text m.sign) (deciders_after 32 m.verdicts) (sign_feed m.sign) (deciders_feed 32 m.verdicts (other 32 refl))
product_feed names (Err s) f = stop_feed names s f

module _ (q : Pred) (others : List PredOf) (over : Every (IsOver q.shape.sites q.shape.vars) (pred_of q ∷ others))
    (names : List (List ℕ)) where
  due_sign : (row : Row) (m : Multiplied) (text : List ℕ) (fields : List (List ℕ))
      → read_row q.shape.sites q.shape.vars fields ≡ Ok row → AreDue (pred_of q ∷ others) row m.verdicts → IsMultiplied m
      → text ≡ line (product_text names (Ok m)) → HasProductSign (pred_of q) others row text
  due_sign row m text fields e d k t = record {
    range = range;
    sign = m.sign;
    perturbed = sign;
    zero = (zero_to, zero_back);
    firsts = firsts;
    verdicts = m.verdicts;
    due = d;
    text_is = t;
  }
    where
      range : InRange q.shape.sites q.shape.vars row
      range = row_in_range q.shape.sites q.shape.vars fields row q.shape.kept e

      sign : RowSign BySmallest q.shape.vars (product_of (pred_of q) others) row (sign_number m.sign)
      sign =
          subst (λ (z : ℤ). RowSign BySmallest q.shape.vars (product_of (pred_of q) others) row z) (sym k)
          (signs-are-products BySmallest q.shape row (root_of (pred_of q)) (map root_of others) (numbers_of m.verdicts) range
          (signs_over q.shape.sites q.shape.vars row (pred_of q ∷ others) m.verdicts over d))

      zero_to : m.sign ≡ Zero → OneIsZeroOn (pred_of q ∷ others) row
      zero_to z =
          zero_of (pred_of q ∷ others) row m.verdicts d
          ((zero-where-one-is (numbers_of m.verdicts)).0 (sym k ∙ ap sign_number z))

      zero_back : OneIsZeroOn (pred_of q ∷ others) row → m.sign ≡ Zero
      zero_back o =
          let one = zero_from q.shape row range (pred_of q ∷ others) m.verdicts over d o.k o.pred o.there o.zero in
          sign-number-same m.sign Zero (k ∙ (zero-where-one-is (numbers_of m.verdicts)).1 one)

      firsts : m.sign ≢ Zero → HasSummedFirsts (pred_of q) others row
      firsts n = elim sign [
        | inl f ↦
            let r = firsts-are-sums BySmallest q.shape row (root_of (pred_of q)) (map root_of others) f.0 range f.1 in
            record {
              firsts = r.0;
              are = r.1;
              sum = subst (λ (a : List ℕ). IsFirst (length q.shape.vars) (row_sites q.shape.vars row.index) (values row.values)
                  (product_of (pred_of q) others) a) r.2 f.1;
            }
        | inr f ↦ absurd (n (sign-number-same m.sign Zero f.1))
      ]

  line_sign : (fields : List (List ℕ)) (text : List ℕ) {said : Result Multiplied RowStop}
      → SaysProduct (pred_of q) (pred_of q ∷ others) fields said → text ≡ line (product_text names said) → (row : Row)
      → read_row q.shape.sites q.shape.vars fields ≡ Ok row → HasProductSign (pred_of q) others row text
  line_sign fields text (due r m e d) t row f =
      let same : r ≡ row = same_row r row (read_row q.shape.sites q.shape.vars fields) e f in
      subst (λ (z : Row). HasProductSign (pred_of q) others z text) same (due_sign r m text fields e d.0 d.1 t)
  line_sign fields text (refused_ s e) t row f = absurd (not_both row s (read_row q.shape.sites q.shape.vars fields) f e)

  lines_signs : HaveNoFeed names → (records : Records) (out err : List ℕ) (w z : Watching)
      → Lines (RowStep (ProductLine (pred_of q ∷ others) (pred_of q) names)) w records out err z
      → HaveProductSigns (pred_of q) others records out
  lines_signs n [] out err w z (l.none _) = none
  lines_signs n (fields ∷ rest) out err w z (l.more {out = o2} {err = e2} _ o e m t k) =
      more o o2 (record { body = product_text names t.is.said; is = t.is.is; none = product_feed names t.is.said n })
      (λ row f. line_sign fields o t.is.says t.is.is row f) (lines_signs n rest o2 e2 m z k)

-- what is required for records after the right header
product_signs : (g : Given) (p : PredOf) (others : List PredOf) (names : List (List ℕ)) (records : Records) (a : Said)
    (was now : Option Shown) → IsGrounded g → are_alike g.preds ≡ true → ProductSaid g a → g.preds ≡ p ∷ others
    → HasRecords g p names (names ∷ records) → now ≡ put_both a.out a.err was → PutProducts p others records was now
product_signs g p others names records a was now i v o f k e =
    let q = in_memory g p others i f in
    let r = of_rows [] (ProductLine g.preds) [] g o.0 k in
    let over = subst (λ (t : PredOf). Every (IsOver t.sites t.vars) (t ∷ others)) (sym q.1) (all_over g i v p others f) in
    let x0 = subst (λ (ps : List PredOf). Lines (RowStep (ProductLine ps p names)) (watching 0 []) records r.out r.err r.left) f r.lines in
    let x = subst (λ t. Lines (RowStep (ProductLine (t ∷ others) t names)) (watching 0 []) records r.out r.err r.left) (sym q.1) x0 in
    let feed = columns_no_feed g q.0 p names i.table i.is q.1 k.columns in
    record {
      lines = r.out;
      signs =
          subst (λ t. HaveProductSigns t others records r.out) q.1
          (lines_signs q.0 others over names feed records r.out r.err (watching 0 []) r.left x);
      programs = subst (All (HasProgram BySmallest)) f o.1;
      shown =
          e ∙ ap (λ (s : Said). put_both s.out s.err was) r.is
          ∙ ap (λ (t : List ℕ). put_both r.out t was)
          (lines_err (ProductLine g.preds p names) records r.out r.err (watching 0 []) r.left refl r.lines);
    }

-- what `product` says has the signs of the products
pub products : {boxes : List State} {result : Status} {was now : Option Shown} (g : Given) → IsFine Product g
    → Worked Product boxes g result was now → (p : PredOf) (others : List PredOf) (names : List (List ℕ)) (records : Records)
    → g.preds ≡ p ∷ others → HasRecords g p names (names ∷ records) → PutProducts p others records was now
products g i w p others names records e k =
    product_signs g p others names records w.said _ _ i.grounded i.asked w.owed e k w.shown
