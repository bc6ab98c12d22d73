-- The lines that explain a record are one.
use Rattle.std.proofs.Common.{◌≡◌, ℕ, ℤ, List, [], ◌∷◌, ◌++◌, length, refl, ap, sym, ◌∙◌, subst, Result, Ok, Err}
use Rattle.ln_base.specs.declared.sign.Sign.{Sign}
use Rattle.ln_algebra.proofs.Ordering.Unique.{stage_list-unique}
use Rattle.ln_tree.specs.declared.shape.VarInfo.{VarInfo}
use Rattle.ln_tree.specs.Exps.{Pairs}
use Rattle.ln_tree.specs.Row.{Row, values}
use Rattle.ln_algebra.specs.Orders.{BySmallest}
use Rattle.ln_order.specs.Rows.{RowStages}
use Rattle.ln_algebra.specs.Sign.{sign_along}
use Rattle.ln_order.specs.Sites.{row_sites}
use Rattle.ln_poly.proofs.Sorting.Collected.{vectors-same}
use Rattle.ln_due.specs.Due.{sign_number}
use Rattle.ln_rows.specs.Record.{read_row}
use Rattle.ln_rows.specs.declared.record.RowStop.{RowStop}
use Rattle.ln_trace.specs.declared.line.TraceLine.{TraceLine}
use Rattle.ln_due.proofs.Verdicts.UniqueLemmas.{sign-number-same}
use Rattle.ln_trace.specs.declared.line.TraceLine.TheVariants as line
use Rattle.ln_trace.specs.Told.{up_to_first}
use Rattle.ln_trace.specs.Trace.{Subject}
use Rattle.ln_trace.specs.Signs.{AreOf, Explains, RowsDiffer, at_lines, no_row, a_row}

-- exponents and values of the same vectors are one
pairs-one : (vars : List VarInfo) (ps qs : List (Pairs × ℤ)) (ts : List (List ℕ × ℤ)) → AreOf vars ps ts → AreOf vars qs ts → ps ≡ qs
pairs-one vars [] [] ts h k = refl
pairs-one vars [] (q ∷ qs) [] h k = absurd k
pairs-one vars (p ∷ ps) [] (t ∷ ts) h k = absurd k
pairs-one vars ((a, y) ∷ ps) ((b, z) ∷ qs) (t ∷ ts) (r, u, v, w, h) (r2, u2, v2, w2, k) =
    let e : a ≡ b = vectors-same (length vars) a b r r2 u u2 (v ∙ sym v2) in
    let f : y ≡ z = w ∙ sym w2 in
    ap (λ (c : Pairs). (c, y) ∷ ps) e ∙ ap (λ (x : ℤ). (b, x) ∷ ps) f ∙ ap (λ xs. (b, z) ∷ xs) (pairs-one vars ps qs ts h k)
pairs-one vars ps qs ts h k = absurd h

same-row : (r s : Row) (o : Result Row RowStop) → o ≡ Ok r → o ≡ Ok s → s ≡ r
same-row r s o e f = cc

not-both : (r : Row) (x : RowStop) (o : Result Row RowStop) → o ≡ Ok r → o ≡ Err x → ⊥
not-both r x o e f = cc

module _ (s : Subject) (n : ℕ) (fields : List (List ℕ)) (differ : RowsDiffer s) where
  row-one : (row : Row) (list other : List (List ℕ)) (ps qs : List (Pairs × ℤ)) (t u : Sign) → read_row s.sites s.vars fields ≡ Ok row
      → RowStages BySmallest s.vars s.tree row list → RowStages BySmallest s.vars s.tree row other
      → AreOf s.vars ps (up_to_first (row_sites s.vars row.index) (values row.values) s.tree list)
      → AreOf s.vars qs (up_to_first (row_sites s.vars row.index) (values row.values) s.tree other)
      → sign_number t ≡ sign_along (row_sites s.vars row.index) (values row.values) s.tree list
      → sign_number u ≡ sign_along (row_sites s.vars row.index) (values row.values) s.tree other
      → line.Row n ∷ at_lines ps ++ line.Sign t ∷ [] ≡ line.Row n ∷ at_lines qs ++ line.Sign u ∷ []
  row-one row list other ps qs t u read x y v w g h =
      let e : list ≡ other = stage_list-unique (length s.vars) (row_sites s.vars row.index) s.tree list other (differ fields row read) x y in
      let w1 = subst (λ (xs : List (List ℕ)). AreOf s.vars qs (up_to_first (row_sites s.vars row.index) (values row.values) s.tree xs)) (sym e) w in
      let p : ps ≡ qs = pairs-one s.vars ps qs _ v w1 in
      let i : sign_number t ≡ sign_number u = g ∙ ap (sign_along (row_sites s.vars row.index) (values row.values) s.tree) e ∙ sym h in
      ap (λ (xs : List (Pairs × ℤ)). line.Row n ∷ at_lines xs ++ line.Sign t ∷ []) p
      ∙ ap (λ (z : Sign). line.Row n ∷ at_lines qs ++ line.Sign z ∷ []) (sign-number-same t u i)

  -- only one list of lines explains a record
  pub explains-one : (ls ks : List TraceLine) → Explains s n fields ls → Explains s n fields ks → ls ≡ ks
  explains-one _ _ (no_row x e) (no_row y f) = refl
  explains-one _ _ (no_row x e) (a_row row list ps t r st of_ sg) = absurd (not-both row x _ r e)
  explains-one _ _ (a_row row list ps t r st of_ sg) (no_row x e) = absurd (not-both row x _ r e)
  explains-one _ _ (a_row row list ps t r st of_ sg) (a_row row2 other qs u r2 st2 of2 sg2) =
      let same : row2 ≡ row = same-row row row2 (read_row s.sites s.vars fields) r r2 in
      row-one row list other ps qs t u r st
      (subst (λ (z : Row). RowStages BySmallest s.vars s.tree z other) same st2) of_
      (subst (λ (z : Row). AreOf s.vars qs (up_to_first (row_sites s.vars z.index) (values z.values) s.tree other)) same of2) sg
      (subst (λ (z : Row). sign_number u ≡ sign_along (row_sites s.vars z.index) (values z.values) s.tree other) same sg2)
