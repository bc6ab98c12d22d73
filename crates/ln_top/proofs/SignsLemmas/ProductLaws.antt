-- `product`: each record has a line, and one line, and so what it requires is one.
use Rattle.std.proofs.Common.{◌≡◌, ℕ, List, [], ◌∷◌, ◌++◌, refl, ap, sym, ◌∙◌, true, subst, None, All, Ok}
use Rattle.std.specs.Prelude.{◌*ℤ◌}
use Rattle.ln_base.specs.declared.sign.Sign.{Sign}
use Rattle.ln_base.specs.declared.sign.Sign.TheVariants.{Minus, Zero, Plus}
use Rattle.ln_algebra.specs.Orders.{BySmallest}
use Rattle.ln_algebra.specs.Product.{multiplied_numbers}
use Rattle.ln_tree.specs.declared.shape.Shape.{Shape}
use Rattle.ln_tree.specs.Row.{InRange, Row}
use Rattle.ln_tree.specs.Table.{PredOf, pred_of, TableOf}
use Rattle.ln_tree.specs.declared.pred.Pred.{Pred}
use Rattle.ln_top.specs.Frame.Said.{line}
use Rattle.ln_top.specs.Frame.Given.{Given}
use Rattle.ln_top.specs.Target.Alike.{are_alike}
use Rattle.ln_top.specs.Target.Factors.{AreFactors, AreProgramsAt, FactorsOf}
use Rattle.ln_top.specs.Target.Line.{decider_text}
use Rattle.ln_top.specs.Target.Target.{HasProgram}
use Rattle.ln_top.proofs.TargetLemmas.FactorsLaws.{range_as, IsOver, alike_over, owed_all}
use Rattle.ln_top.specs.Signs.Product.{AreDue, IsMultiplied, Multiplied, ProductLine, deciders_after, product_text, product_work}
use Rattle.ln_top.proofs.FrameLemmas.Laws.{IsLawful, lawful_by, shape_objects}
use Rattle.ln_top.proofs.FrameLemmas.Grounded.{IsGrounded, each_found}
use Rattle.ln_code.specs.declared.verdict.Verdict.{Verdict}
use Rattle.ln_due.specs.Due.{sign_number}
use Rattle.ln_due.specs.DueLaw.{Agree}
use Rattle.ln_due.proofs.Verdicts.UniqueLemmas.{sign-number-same}
use Rattle.ln_factor.specs.Factors.{numbers_of}
use Rattle.ln_compile.proofs.Listing.FilteredLemmas.{one_due}
use Rattle.ln_rows.proofs.Fields.RangeLemmas.{row_in_range}
use Rattle.ln_parse.specs.ReadsBack.{Every}
use Rattle.ln_parse.proofs.Wholes.WholeParts.{PredParts, table_parts}
use Rattle.ln_top.specs.declared.frame.asked.Asked.TheVariants.{SameArgs}
use Rattle.ln_top.specs.Frame.Source.{view}
use Rattle.ln_top.proofs.SignsLemmas.OneLine.{line_of, said_there, says_alike}
use Rattle.ln_top.proofs.SignsLemmas.RowsLaws.{HasLines, HasOneLine, SameLine, lawful_rows, one_line, unseen}

-- ---- the sign of a product
times_there : (s t : Sign) → (u : Sign) × (sign_number u ≡ sign_number s *ℤ sign_number t)
times_there Minus Minus = (Plus, refl)
times_there Minus Zero = (Zero, refl)
times_there Minus Plus = (Minus, refl)
times_there Zero Minus = (Zero, refl)
times_there Zero Zero = (Zero, refl)
times_there Zero Plus = (Zero, refl)
times_there Plus Minus = (Minus, refl)
times_there Plus Zero = (Zero, refl)
times_there Plus Plus = (Plus, refl)

sign_there : (vs : List Verdict) → (s : Sign) × (sign_number s ≡ multiplied_numbers (numbers_of vs))
sign_there [] = (Plus, refl)
sign_there (v ∷ vs) =
    let t = sign_there vs in
    let u = times_there v.sign t.0 in
    (u.0, u.1 ∙ ap (λ z. sign_number v.sign *ℤ z) t.1)

-- ---- lines
-- each record has a line
pub line_there : (t : FactorsOf) → AreFactors t → (ps : List PredOf) → AreProgramsAt t.programs t.which ps
    → HasLines (ProductLine ps) (pred_of t.pred) t.names
line_there t fits ps programs number fields =
    line_of (λ said. None) (λ said. line (product_text t.names said)) (said_there _ (pred_of t.pred) fields (λ row e.
    let v = owed_all t.pred.shape.sites t.pred.shape.vars t.programs fits.kept row t.which ps fits.over
    (row_in_range t.pred.shape.sites t.pred.shape.vars fields row t.pred.shape.kept e) fits.places programs in
    let sign = sign_there v.0 in
    (record { sign = sign.0; verdicts = v.0 }, (v.1, sign.1))))

-- predicates with the same arguments are over the variables of the first
pub all_over : (g : Given) → IsGrounded g → are_alike g.preds ≡ true → (p : PredOf) (others : List PredOf) → g.preds ≡ p ∷ others
    → Every (IsOver p.sites p.vars) (p ∷ others)
all_over g i a p others e =
    let t : TableOf = view i.table in
    let whole : Every (PredParts t.sites t.params) t.preds = (table_parts t i.table.whole).preds in
    let here : Every (PredParts t.sites t.params) g.table.preds =
    subst (λ (u : TableOf). Every (PredParts t.sites t.params) u.preds) i.is whole in
    let found : Every (PredParts t.sites t.params) g.preds = each_found (PredParts t.sites t.params) g.table.preds g.preds here i.found in
    alike_over t.sites t.params p others (subst (λ (ps : List PredOf). Every (PredParts t.sites t.params) ps) e found)
    (subst (λ (ps : List PredOf). are_alike ps ≡ true) e a)

-- verdicts that the factors owe a row have the same signs and deciders
record AreAlike (vs ws : List Verdict) : Type 0 where
  deciders : (byte : ℕ) → deciders_after byte vs ≡ deciders_after byte ws
  numbers : numbers_of vs ≡ numbers_of ws

agree_all : (s : Shape) (row : Row) → InRange s.sites s.vars row → (ps : List PredOf) (vs ws : List Verdict)
    → Every (IsOver s.sites s.vars) ps → AreDue ps row vs → AreDue ps row ws → AreAlike vs ws
agree_all s row r [] [] [] o d g = record { deciders = λ byte. refl; numbers = refl }
agree_all s row r [] (v ∷ vs) ws o d g = absurd d
agree_all s row r [] [] (w ∷ ws) o d g = absurd g
agree_all s row r (p ∷ ps) [] ws o d g = absurd d
agree_all s row r (p ∷ ps) (v ∷ vs) [] o d g = absurd g
agree_all s row r (p ∷ ps) (v ∷ vs) (w ∷ ws) o d g =
    let range = range_as s.sites p.sites s.vars p.vars row (sym o.0.0) (sym o.0.1) r in
    let a : Agree v w = one_due s p row v w o.0.1 o.0.0 range d.0 g.0 in
    let rest = agree_all s row r ps vs ws o.1 d.1 g.1 in
    record {
      deciders = λ byte. ap (λ x. byte ∷ decider_text x ++ deciders_after 44 vs) a.by
          ∙ ap (λ t. byte ∷ decider_text w.by ++ t) (rest.deciders 44);
      numbers = ap (λ x. sign_number x ∷ numbers_of vs) a.sign ∙ ap (λ t. sign_number w.sign ∷ t) rest.numbers;
    }

-- verdicts that a row requires have one line
agreed : (q : Pred) (ps : List PredOf) → Every (IsOver q.shape.sites q.shape.vars) ps → (names : List (List ℕ)) (row : Row) (m k : Multiplied)
    → InRange q.shape.sites q.shape.vars row → AreDue ps row m.verdicts × IsMultiplied m → AreDue ps row k.verdicts × IsMultiplied k
    → SameLine None None (line (product_text names (Ok m))) (line (product_text names (Ok k)))
agreed q ps over names row m k range d g =
    let same = agree_all q.shape row range ps m.verdicts k.verdicts over d.0 g.0 in
    let sign : m.sign ≡ k.sign = sign-number-same m.sign k.sign (d.1 ∙ ap multiplied_numbers same.numbers ∙ sym g.1) in
    unseen (rw (sign, same.deciders 32) refl)

-- a record has one line
one_product : (q : Pred) (ps : List PredOf) → Every (IsOver q.shape.sites q.shape.vars) ps → (names : List (List ℕ))
    → HasOneLine (ProductLine ps) (pred_of q) names
one_product q ps over names n fields x y a b =
    one_line (says_alike (pred_of q) fields (λ s t. SameLine None None (line (product_text names s)) (line (product_text names t)))
    (λ row m k e. agreed q ps over names row m k (row_in_range q.shape.sites q.shape.vars fields row q.shape.kept e)) (λ stop. unseen refl))

-- the laws of a work hold for `product`
pub lawful : IsLawful SameArgs product_work
lawful =
    lawful_by (All (HasProgram BySmallest))
    (lawful_rows SameArgs [] ProductLine (λ boxes. []) shape_objects (λ g i s q others f.
    one_product q g.preds (subst (Every (IsOver q.shape.sites q.shape.vars)) (sym f) (all_over g i s (pred_of q) others f))))
