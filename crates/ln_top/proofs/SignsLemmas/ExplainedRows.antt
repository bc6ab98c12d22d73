-- Each row of an accepted predicate has lines that explain it.
use Rattle.std.proofs.Common.{◌≡◌, ◌<◌, inl, inr, ℕ, zero, suc, List, [], ◌∷◌, ◌++◌, length, map, get_or, refl, ap, sym}
use Rattle.std.proofs.Common.{◌∙◌, subst, arith, Ok, Err, None}
use Rattle.std.specs.Prelude.{slice_get, Some}
use Rattle.std.proofs.lemmas.List.{append-nil}
use Rattle.std.proofs.lemmas.Option.{none-some, same_Some}
use Rattle.std.proofs.Math.IntN.{ℤ, pos, negsuc}
use Rattle.std.proofs.lemmas.List.Elements.{All-head, All-tail}
use Rattle.ln_base.specs.declared.sign.Sign.{Sign}
use Rattle.ln_base.specs.declared.sign.Sign.TheVariants.{Minus, Zero, Plus}
use Rattle.ln_algebra.specs.Earlier.{Sites}
use Rattle.ln_algebra.specs.Orders.{BySmallest}
use Rattle.ln_algebra.specs.Sign.{or_else, perturbed, sign_along, sign_of}
use Rattle.ln_algebra.specs.Stage.{IsMonomial}
use Rattle.ln_algebra.specs.Tree.{Tree}
use Rattle.ln_algebra.specs.Vector.{In}
use Rattle.ln_algebra.proofs.Walking.Stages.{covers-get}
use Rattle.ln_tree.specs.declared.pred.Pred.{Pred}
use Rattle.ln_tree.specs.declared.shape.VarInfo.{VarInfo}
use Rattle.ln_tree.specs.Exps.{IsAbove, IsRising, Pairs, vector}
use Rattle.ln_tree.specs.Row.{InRange, Row, values}
use Rattle.ln_tree.specs.Table.{PredOf, pred_of}
use Rattle.ln_order.proofs.Listing.OrderExists.{order-exists}
use Rattle.ln_order.proofs.Signs.RowSigns.{row-stages}
use Rattle.ln_order.proofs.Signs.RowsLemmas.{order-places}
use Rattle.ln_order.specs.Orders.{IsOrderOf}
use Rattle.ln_order.specs.Rows.{OrderStages, RowStages}
use Rattle.ln_order.specs.Sites.{row_sites}
use Rattle.ln_poly.proofs.TermLists.Counting.{nonzero-in, vectors}
use Rattle.ln_poly.proofs.Expansions.Existing.{tree-normal}
use Rattle.ln_poly.specs.Expansion.{IsNormal}
use Rattle.ln_poly.specs.Sparse.{AreRising, Sparse, terms_of}
use Rattle.ln_stage.proofs.Monomials.MonomialLemmas.{vector-small}
use Rattle.ln_poly.specs.Packed.{pairs_from}
use Rattle.ln_poly.proofs.TermLists.Vectors.{pairs-all-above}
use Rattle.ln_stage.proofs.Walks.PairsLemmas.{above-pairs, vector-pairs_of}
use Rattle.ln_stage.specs.Tally.{pairs_of}
use Rattle.ln_code.specs.Carried as carried
use Rattle.ln_code.specs.Lists.{IsListOf, list_of}
use Rattle.ln_code.specs.Part.{Part}
use Rattle.ln_code.specs.RowOf.{row_of}
use Rattle.ln_code.specs.declared.row.Row as code
use Rattle.ln_code.proofs.Verdicts.Machine.{programs-run}
use Rattle.ln_compile.specs.Accepted.{AreSound, IsSound, root_of}
use Rattle.ln_due.specs.Due.{sign_number}
use Rattle.ln_rows.proofs.Fields.RangeLemmas.{row_in_range}
use Rattle.ln_rows.specs.Record.{read_row}
use Rattle.ln_rows.specs.declared.record.RowStop.{RowStop}
use Rattle.ln_trace.specs.declared.line.TraceLine.{TraceLine}
use Rattle.ln_trace.specs.declared.line.TraceLine.TheVariants as line
use Rattle.ln_trace.proofs.BlockLaw.{blocks-explained}
use Rattle.ln_trace.specs.Explain.{BlocksTell, IsToldBehind}
use Rattle.ln_trace.specs.Signs.{AreOf, Explains, a_row, at_lines, no_row}
use Rattle.ln_trace.specs.Text.{text_of_line, text_of_lines}
use Rattle.ln_trace.specs.Told.{stop_at, up_to_first}
use Rattle.ln_top.specs.Frame.Subject.{subject_of}
use Rattle.ln_top.specs.declared.frame.ready.Ready.{Ready}
use Rattle.ln_compile.specs.Compiled.{AreNumbered}
use Rattle.ln_top.specs.Frame.Ready.{StandsFor}
use Rattle.ln_top.specs.Frame.Given.{Given}
use Rattle.ln_top.specs.Target.Target.{Belongs, TargetOf, pred_in}
use Rattle.ln_top.specs.Signs.Named.{IsGivenBy}
use Rattle.ln_top.proofs.FrameLemmas.Lightness.{light_of}
use Rattle.ln_top.specs.Signs.Explain.{ExplainLine}
use Rattle.ln_top.proofs.SignsLemmas.OneLine.{by_read, line_of}
use Rattle.ln_top.proofs.SignsLemmas.RowsLaws.{HasLines}

-- ---- exponents are small
in-small : (n : ℕ) (f : Sparse) (m : List ℕ) (v : ℕ) → AreRising f → In (vectors (terms_of n f)) m → get_or m v 0 < 128
in-small n [] m v r i = absurd i
in-small n (t ∷ f) m v r (inl e) = rw e (vector-small n t.0 v (All-head (λ u. IsRising u.0) t f r))
in-small n (t ∷ f) m v r (inr i) = in-small n f m v (All-tail (λ u. IsRising u.0) t f r) i

rising-from : (v : ℕ) (p : List ℕ) → ((w : ℕ) → get_or p w 0 < 128) → IsRising (pairs_from v p)
rising-from v [] h = tt
rising-from v (zero ∷ p) h = rising-from (suc v) p (λ w. h (suc w))
rising-from v (suc e ∷ p) h = (omega arith, h 0, pairs-all-above v (suc v) p (omega arith), rising-from (suc v) p (λ w. h (suc w)))

-- ---- lines
-- a vector is in a line by these pairs
abbrev IsPaired : ℕ → List ℕ → Type 0
IsPaired n a = IsRising (pairs_of a) × IsAbove (pairs_of a) n × (vector n (pairs_of a) ≡ a)

abbrev paired : List (List ℕ × ℤ) → List (Pairs × ℤ)
paired ts = map (λ t. (pairs_of t.0, t.1)) ts

stopped : (vars : List VarInfo) (z : ℤ) (ts : List (List ℕ × ℤ)) → AreOf vars (paired ts) ts → AreOf vars (paired (stop_at z ts)) (stop_at z ts)
stopped vars (pos zero) ts h = h
stopped vars (pos (suc n)) ts h = tt
stopped vars (negsuc n) ts h = tt

are-of : (vars : List VarInfo) (sites : Sites) (x : ℕ → ℤ) (e : Tree) (list : List (List ℕ))
    → ((a : List ℕ) → In list a → IsPaired (length vars) a) → AreOf vars (paired (up_to_first sites x e list)) (up_to_first sites x e list)
are-of vars sites x e [] g = tt
are-of vars sites x e (a ∷ list) g =
    let h = g a (inl refl) in (
      h.0,
      h.1,
      h.2,
      refl,
      stopped vars (perturbed sites x e a) (up_to_first sites x e list) (are-of vars sites x e list (λ b i. g b (inr i))),
    )

chosen : (z : ℤ) (s : ℤ) → ((t : Sign) × (sign_number t ≡ s)) → (t : Sign) × (sign_number t ≡ or_else (sign_of z) s)
chosen (pos zero) s t = t
chosen (pos (suc n)) s t = (Plus, refl)
chosen (negsuc n) s t = (Minus, refl)

sign-there : (sites : Sites) (x : ℕ → ℤ) (e : Tree) (list : List (List ℕ)) → (t : Sign) × (sign_number t ≡ sign_along sites x e list)
sign-there sites x e [] = (Zero, refl)
sign-there sites x e (a ∷ list) = chosen (perturbed sites x e a) (sign_along sites x e list) (sign-there sites x e list)

-- ---- rows
module _ (q : Pred) (f : Sparse) (normal : IsNormal (length q.shape.vars) (root_of (pred_of q)) f) where
  monomial-small : (m : List ℕ) (v : ℕ) → IsMonomial (length q.shape.vars) (root_of (pred_of q)) m → get_or m v 0 < 128
  monomial-small m v i =
      in-small (length q.shape.vars) f m v normal.form.rising
      (nonzero-in (terms_of (length q.shape.vars) f) m (λ z. i.nonzero (sym (normal.normal.coefficients m i.size) ∙ z)))

  stage-paired : (row : Row) (list : List (List ℕ)) → RowStages BySmallest q.shape.vars (root_of (pred_of q)) row list → (a : List ℕ)
      → In list a → IsPaired (length q.shape.vars) a
  stage-paired row list s a i =
      let stage = s.stages a i in
      let c = stage.covered in (
        rising-from 0 a (λ w. omega (arith, covers-get c.0 a c.2 w, monomial-small c.0 w c.1)),
        above-pairs a (length q.shape.vars) stage.over.size,
        vector-pairs_of (length q.shape.vars) a stage.over.size,
      )

  row-told : (n : ℕ) (fields : List (List ℕ)) (row : Row) (list : List (List ℕ)) → read_row q.shape.sites q.shape.vars fields ≡ Ok row
      → RowStages BySmallest q.shape.vars (root_of (pred_of q)) row list
      → (lines : List TraceLine) × Explains (subject_of (pred_of q)) n fields lines
  row-told n fields row list read s =
      let sites : Sites = row_sites q.shape.vars row.index in
      let t = sign-there sites (values row.values) (root_of (pred_of q)) list in
      let ts = up_to_first sites (values row.values) (root_of (pred_of q)) list in (
        line.Row n ∷ at_lines (paired ts) ++ line.Sign t.0 ∷ [],
        a_row row list (paired ts) t.0 read s
            (are-of q.shape.vars sites (values row.values) (root_of (pred_of q)) list (stage-paired row list s)) t.1,
      )

-- a part that carries the expression has the stage list of each row
row-list : (q : Pred) (part : Part) (fields : List (List ℕ)) (row : Row) → Belongs BySmallest q part
    → read_row q.shape.sites q.shape.vars fields ≡ Ok row
    → (list : List (List ℕ)) × RowStages BySmallest q.shape.vars (root_of (pred_of q)) row list
row-list q part fields row b read =
    let range = row_in_range q.shape.sites q.shape.vars fields row q.shape.kept read in
    let o = order-exists row.index range.differ in
    let at : IsOrderOf q.shape.sites o.0 = subst (λ (n : ℕ). IsOrderOf n o.0) range.size (order-places row.index o.0 o.1) in
    let at1 : IsOrderOf part.shape.sites o.0 = subst (λ (n : ℕ). IsOrderOf n o.0) (sym b.answers.sites) at in
    let l : IsListOf part o.0 (list_of part o.0) = record { order = at1; list_is = refl } in
    let stages = b.answers.carries.lists o.0 (list_of part o.0) l in
    let stages1 = subst (λ (vs : List VarInfo). OrderStages BySmallest vs (root_of (pred_of q)) o.0 (carried.vectors part (list_of part o.0)))
    b.answers.vars stages in (
      carried.vectors part (list_of part o.0),
      row-stages BySmallest q.shape row o.0 (root_of (pred_of q)) (carried.vectors part (list_of part o.0)) range o.1 stages1,
    )

-- each record of a predicate without a fault, with a program that has its verdicts, has lines that explain it
pub line_there : (t : TargetOf) → IsSound (pred_in t) → Belongs BySmallest t.pred t.program → HasLines ExplainLine (pred_in t) t.names
line_there t sound belongs number fields =
    line_of (λ lines. None) text_of_lines (by_read (pred_in t) fields (λ row e.
    let normal = tree-normal (length t.pred.shape.vars) (root_of (pred_in t)) (light_of t.pred sound) in
    let list = row-list t.pred t.program fields row belongs e in
    row-told t.pred normal.0 normal.1 number fields row list.0 e list.1) (λ stop e. (line.Refused number ∷ [], no_row stop e)))

-- the predicate that is run has no fault
numbered_sound : (table : List PredOf) (is : List ℕ) (p : PredOf) (rest : List PredOf) → AreSound table → AreNumbered table is (p ∷ rest)
    → IsSound p
numbered_sound table [] p rest s a = absurd a
numbered_sound table (i ∷ is) p rest s a = at_sound table i p s a.0
  where
    at_sound : (ps : List PredOf) (k : ℕ) (r : PredOf) → AreSound ps → slice_get ps k ≡ Some r → IsSound r
    at_sound [] k r t e = absurd (none-some r e)
    at_sound (x ∷ ps) zero r t e = subst IsSound (same_Some x r e) t.0
    at_sound (x ∷ ps) (suc k) r t e = at_sound ps k r t.1 e

-- the predicate that is run has no fault, where none of the source has
pub sound_pred : (r : Ready) (g : Given) (t : TargetOf) → StandsFor r g → AreSound (map pred_of r.compiled.table.preds) → IsGivenBy g t
    → IsSound (pred_in t)
sound_pred r g t s a h =
    numbered_sound (map pred_of r.compiled.table.preds) r.numbers.items (pred_in t) [] a
    (subst (λ (ps : List PredOf). AreNumbered (map pred_of r.compiled.table.preds) r.numbers.items ps) h.pred s.numbered)

-- ---- from the code
-- a text grew by the lines of a record
abbrev Grows : PredOf → List (List ℕ) → ℕ → List (List ℕ) → List ℕ → List ℕ → Type 0
Grows p names n fields old new = (out : List ℕ) × ExplainLine p names n fields None out × (new ≡ old ++ out)

-- what the blocks tell of a row explains it
pub blocks_say : (q : Pred) (part : Part) (names fields : List (List ℕ)) (r : code.Row) (n : ℕ) (old new : List ℕ) → Belongs BySmallest q part
    → read_row q.shape.sites q.shape.vars fields ≡ Ok (row_of q.shape.sites q.shape.vars r)
    → IsToldBehind part (row_of part.shape.sites part.shape.vars r) n old new → Grows (pred_of q) names n fields old new
blocks_say q part names fields r n old new b read t =
    let root : Tree = root_of (pred_of q) in
    let same : row_of part.shape.sites part.shape.vars r ≡ row_of q.shape.sites q.shape.vars r = rw (b.answers.sites, b.answers.vars) refl in
    let told : BlocksTell part (row_of q.shape.sites q.shape.vars r) n t.lines = subst (λ (row : Row). BlocksTell part row n t.lines) same t.told in
    let read1 : read_row part.shape.sites part.shape.vars fields ≡ Ok (row_of q.shape.sites q.shape.vars r) = rw (b.answers.sites, b.answers.vars) read in
    let range = row_in_range q.shape.sites q.shape.vars fields (row_of q.shape.sites q.shape.vars r) q.shape.kept read in
    let range1 : InRange part.shape.sites part.shape.vars (row_of q.shape.sites q.shape.vars r) = rw (b.answers.sites, b.answers.vars) range in
    let explains = blocks-explained part root (terms_of (length q.shape.vars) b.answers.poly) fields (row_of q.shape.sites q.shape.vars r) n t.lines
    (programs-run part b.kept) b.answers.carries read1 range1 told in
    (_, record { said = t.lines; says = rw (b.answers.vars, b.answers.sites) at explains; shows = refl; is = refl }, t.put)

-- the line of an invalid record
pub refused_says : (q : Pred) (names fields : List (List ℕ)) (x : RowStop) (n : ℕ) (old new : List ℕ)
    → read_row q.shape.sites q.shape.vars fields ≡ Err x → new ≡ old ++ text_of_line (line.Refused n) → Grows (pred_of q) names n fields old new
refused_says q names fields x n old new e t = (
  _,
  record { said = line.Refused n ∷ []; says = no_row x e; shows = refl; is = refl },
  t ∙ ap (λ z. old ++ z) (sym (append-nil (text_of_line (line.Refused n)))),
)
