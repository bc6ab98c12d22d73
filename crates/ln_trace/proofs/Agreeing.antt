-- Proves that agreed traces have the perturbed signs, and that what is explained is agreed.
use Rattle.std.proofs.Common.{◌≡◌, ℕ, ◌+◌, ◌<◌, zero, suc, refl, sym, ◌∙◌, ap, subst, arith, true, List, [], ◌∷◌, length, Some, None, is_some}
use Rattle.std.specs.Prelude.{Option, Ok, slice_get}
use Rattle.std.proofs.Math.IntN.{ℤ}
use Rattle.ln_algebra.specs.Earlier.{IsOver}
use Rattle.ln_algebra.specs.Tree.{InputsBelow}
use Rattle.ln_tree.specs.declared.shape.VarInfo.{VarInfo}
use Rattle.ln_tree.specs.Exps.{IsAbove, IsRising, Pairs, exponent, vector}
use Rattle.ln_tree.specs.Row.{Row, values}
use Rattle.ln_tree.proofs.Powers.{power-here, vector-get}
use Rattle.ln_order.specs.Sites.{row_sites, site_of}
use Rattle.ln_code.specs.Kept.{AreOfSites, is_of_site}
use Rattle.ln_due.specs.Due.{sign_number}
use Rattle.ln_rows.specs.Left.{Records}
use Rattle.ln_rows.specs.Record.{read_row}
use Rattle.ln_trace.specs.declared.line.TraceLine.{TraceLine}
use Rattle.ln_trace.specs.declared.line.TraceLine.TheVariants as line
use Rattle.ln_trace.specs.Told.{AreTold, IsNext, IsSigned, Leads, Stood}
use Rattle.ln_base.proofs.Forms.Judging.{go_append}
use Rattle.ln_trace.specs.Trace.{Between, Place, Subject, Within}
use Rattle.ln_trace.specs.Judge.{Go, IsAgreed, judge_of}
use Rattle.ln_trace.specs.Signs.{AreExplained, AreOf, AreRight, Explains, HaveStages, RowsDiffer, a_row, at_lines, no_row, signs_in}
use Rattle.ln_trace.proofs.Telling.{list_told, told_signed}

between-left : (m k : ℕ) (left rest : Records) → Between m rest ≡ Between k left → left ≡ rest
between-left m k left rest e = cc

between-apart : (m k : ℕ) (left rest : Records) (row : Row) (stood : Stood) → Between m rest ≡ Within k left row stood → ⊥
between-apart m k left rest row stood e = cc

-- ---- soundness
module _ (s : Subject) (inputs : InputsBelow (length s.vars) s.tree) (differ : RowsDiffer s) (m : ℕ) where
  abbrev Told : Row → Stood → Type 0
  Told row stood = AreTold (length s.vars) (row_sites s.vars row.index) (values row.values) s.tree stood

  -- what is known at a place, and what is claimed of the lines after it
  abbrev Known : Place → Type 0
  Known (Between seen left) = Unit {0}
  Known (Within seen left row stood) = (fields : List (List ℕ)) × (read_row s.sites s.vars fields ≡ Ok row) × Told row stood

  abbrev Claim : (here : Place) → Known here → List TraceLine → Type 0
  Claim (Between seen left) h lines = AreRight s left (signs_in lines)
  Claim (Within seen left row stood) h lines = AreRight s (h.0 ∷ left) (signs_in lines)

  right : (lines : List TraceLine) (here : Place) (h : Known here) → Go s here lines (Between m []) → Claim here h lines
  right [] (Between seen left) h g = subst (λ l. AreRight s l []) (sym (between-left m seen left [] g)) tt
  right [] (Within seen left row stood) h g = absurd (between-apart m seen left [] row stood g)
  right (line.Refused n ∷ lines) (Between seen left) h (t, r, g) =
      subst (λ l. AreRight s l (None ∷ signs_in lines)) (sym r.next)
      ((r.stop, r.refused), right lines (Between (seen + 1) r.behind) tt (subst (λ p. Go s p lines (Between m [])) r.to g))
  right (line.Row n ∷ lines) (Between seen left) h (t, r, g) =
      subst (λ l. AreRight s l (signs_in lines)) (sym r.next)
      (right lines (Within (seen + 1) r.behind r.row []) (r.fields, r.read, tt) (subst (λ p. Go s p lines (Between m [])) r.to g))
  right (line.At exps z ∷ lines) (Within seen left row stood) (fields, read, told) (t, r, g) =
      right lines (Within seen left row ((vector (length s.vars) exps, z) ∷ stood)) (fields, read, (r.next, told))
      (subst (λ p. Go s p lines (Between m [])) r.to g)
  right (line.Sign u ∷ lines) (Within seen left row stood) (fields, read, told) (t, r, g) = (
    (
      row,
      read,
      told_signed (length s.vars) (row_sites s.vars row.index) (values row.values) s.tree inputs (differ fields row read) stood (sign_number u) told r.signed,
    ),
    right lines (Between seen left) tt (subst (λ p. Go s p lines (Between m [])) r.to g),
  )
  right (l ∷ lines) here h (t, r, g) = absurd r

-- an agreed trace says of each record what is right
pub agreed-right : (s : Subject) (records : Records) (lines : List TraceLine) → InputsBelow (length s.vars) s.tree → RowsDiffer s
    → IsAgreed s records lines → AreRight s records (signs_in lines)
agreed-right s records lines inputs differ g = right s inputs differ (length records) lines (Between 0 records) tt g

-- ---- completeness
-- variables with an exponent are those of sites
site-at : (vars : List VarInfo) (v : ℕ) → v < length vars → is_of_site (slice_get vars v) ≡ is_some (site_of vars v)
site-at [] v h = absurd (omega arith)
site-at (i ∷ is) zero h = refl
site-at (i ∷ is) (suc v) h = site-at is v (omega (arith, h))

none-or-some : (o : Option ℕ) → (o ≡ None → ⊥) → is_some o ≡ true
none-or-some None h = absurd (h refl)
none-or-some (Some k) h = refl

of-sites : (vars : List VarInfo) (ps : Pairs) → IsRising ps → IsAbove ps (length vars)
    → ((v : ℕ) → v < length vars → site_of vars v ≡ None → exponent v ps ≡ 0) → AreOfSites vars ps
of-sites vars [] r a h = tt
of-sites vars (p ∷ ps) r a h = (site-at vars p.0 a.0 ∙ none-or-some (site_of vars p.0) none, of-sites vars ps r.3 a.1 behind) where
  none : site_of vars p.0 ≡ None → ⊥
  none e = omega (arith, h p.0 a.0 e, power-here p.0 p refl, r.0)

  behind : (v : ℕ) → v < length vars → site_of vars v ≡ None → exponent v ps ≡ 0
  behind v l e = omega (arith, h v l e)

over-of-sites : (vars : List VarInfo) (index : List ℤ) (ps : Pairs) → IsRising ps → IsAbove ps (length vars)
    → IsOver (length vars) (row_sites vars index) (vector (length vars) ps) → AreOfSites vars ps
over-of-sites vars index ps r a o = of-sites vars ps r a (λ v l e. sym (vector-get (length vars) v ps l) ∙ o.of_sites v e)

module _ (s : Subject) (row : Row) (seen : ℕ) (left : Records) where
  ats-go : (ps : List (Pairs × ℤ)) (ts : List (List ℕ × ℤ)) (stood q : Stood) → AreOf s.vars ps ts
      → Leads (length s.vars) (row_sites s.vars row.index) (values row.values) s.tree stood ts q
      → Go s (Within seen left row stood) (at_lines ps) (Within seen left row q)
  ats-go [] [] stood q a l = ap (Within seen left row) l
  ats-go (p ∷ ps) (t ∷ ts) stood q (rising, above, e, f, a) (next, l) =
      let n : ℕ = length s.vars in
      let pair : (vector n p.0, p.1) ≡ t = rw (e, f) refl in
      let over : IsOver n (row_sites s.vars row.index) (vector n p.0) = subst (IsOver n (row_sites s.vars row.index)) (sym e) next.over in
      let here : IsNext n (row_sites s.vars row.index) (values row.values) s.tree stood (vector n p.0) p.1 =
      subst (λ (u : List ℕ × ℤ). IsNext n (row_sites s.vars row.index) (values row.values) s.tree stood u.0 u.1) (sym pair) next in
      let on : Leads n (row_sites s.vars row.index) (values row.values) s.tree ((vector n p.0, p.1) ∷ stood) ts q =
      subst (λ (u : List ℕ × ℤ). Leads n (row_sites s.vars row.index) (values row.values) s.tree (u ∷ stood) ts q) (sym pair) l in (
        Within seen left row ((vector n p.0, p.1) ∷ stood),
        record { rising = rising; of_sites = over-of-sites s.vars row.index p.0 rising above over; next = here; to = refl },
        ats-go ps ts ((vector n p.0, p.1) ∷ stood) q a on,
      )
  ats-go ps ts stood q a l = absurd a

module _ (s : Subject) (differ : RowsDiffer s) (some : HaveStages s) where
  record-go : (k n : ℕ) (fields : List (List ℕ)) (left : Records) (front : List TraceLine) → n ≡ k + 1 → Explains s n fields front
      → Go s (Between k (fields ∷ left)) front (Between (k + 1) left)
  record-go k n fields left front e (no_row stop read) =
      (Between (k + 1) left, record { number = e; fields = fields; behind = left; next = refl; stop = stop; refused = read; to = refl }, refl)
  record-go k n fields left front e (a_row row list ps t read stages of signed) =
      let r = list_told (length s.vars) (row_sites s.vars row.index) (values row.values) s.tree (differ fields row read) list stages (some row list stages) in
      let i : IsSigned (length s.vars) (row_sites s.vars row.index) s.tree r.0 (sign_number t) =
      subst (IsSigned (length s.vars) (row_sites s.vars row.index) s.tree r.0) (sym signed) r.2 in (
        Within (k + 1) left row [],
        record { number = e; fields = fields; behind = left; next = refl; row = row; read = read; to = refl },
        go_append (judge_of s) (Within (k + 1) left row []) (Within (k + 1) left row r.0) (Between (k + 1) left) (at_lines ps) (line.Sign t ∷ [])
            (ats-go s row (k + 1) left ps _ [] r.0 of r.1)
            (Between (k + 1) left, record { signed = i; to = refl }, refl),
      )

  records-go : (records : Records) (k : ℕ) (lines : List TraceLine) → AreExplained s (k + 1) records lines
      → Go s (Between k records) lines (Between (k + length records) [])
  records-go [] k lines e = subst (λ ls. Go s (Between k []) ls (Between (k + 0) [])) (sym e) (ap (λ j. Between j []) (let z : k + 0 ≡ k = omega arith in z))
  records-go (fields ∷ records) k lines (front, rest, ex, more, e) =
      let w : (k + 1) + length records ≡ k + suc (length records) = omega arith in
      let g : Go s (Between (k + 1) records) rest (Between (k + suc (length records)) []) =
      subst (λ j. Go s (Between (k + 1) records) rest (Between j [])) w (records-go records (k + 1) rest more) in
      subst (λ ls. Go s (Between k (fields ∷ records)) ls (Between (k + suc (length records)) [])) (sym e)
      (go_append (judge_of s) (Between k (fields ∷ records)) (Between (k + 1) records) (Between (k + suc (length records)) []) front rest
      (record-go k (k + 1) fields records front refl ex) g)

  -- lines that explain each record, from the first on, are an agreed trace
  pub explained-agreed : (records : Records) (lines : List TraceLine) → AreExplained s 1 records lines → IsAgreed s records lines
  explained-agreed records lines h =
      let w : 0 + length records ≡ length records = omega arith in
      let i : 1 ≡ 0 + 1 = omega arith in
      subst (λ j. Go s (Between 0 records) lines (Between j [])) w (records-go records 0 lines (subst (λ j. AreExplained s j records lines) i h))
