-- Proves that what is explained has the form of a trace.
use Rattle.std.proofs.Common.{◌≢◌, ℕ, ◌+◌, ◌^◌, ◌<◌, ◌≤◌, ℤ, refl, sym, subst, arith, List, [], ◌∷◌, ◌++◌, length, append_assoc}
use Rattle.ln_base.specs.Exponents.{Each, IsExponent}
use Rattle.ln_base.specs.declared.sign.Sign.{Sign}
use Rattle.ln_tree.specs.declared.shape.VarInfo.{VarInfo}
use Rattle.ln_tree.specs.Exps.{IsAbove, IsRising, Pairs}
use Rattle.ln_tree.specs.Row.{values}
use Rattle.ln_order.specs.Sites.{row_sites}
use Rattle.ln_rows.specs.Left.{Records}
use Rattle.ln_trace.specs.declared.line.TraceLine.{TraceLine}
use Rattle.ln_trace.specs.declared.line.TraceLine.TheVariants as line
use Rattle.ln_trace.specs.Form.{SomeAts, TraceText, WholeRecords}
use Rattle.ln_trace.specs.Form as form
use Rattle.ln_trace.specs.FormLaw.{HasSmallValue}
use Rattle.ln_trace.specs.Signs.{AreExplained, AreOf, Explains, HaveStages, a_row, at_lines, no_row}
use Rattle.ln_trace.specs.Text.{IsLine, first_line, text_of_lines}
use Rattle.ln_trace.specs.Told.{up_to_first}
use Rattle.ln_trace.specs.Trace.{Subject}

-- whole records whose lines are within the ranges are a trace, after the first line
pub records-trace : (ls : List TraceLine) → WholeRecords ls → Each IsLine ls → TraceText (first_line ++ text_of_lines ls) ls
records-trace ls w p = record { trace = record { form = w; ranges = p }; text = refl }

-- ---- the form
some-ats : (p : Pairs × ℤ) (ps : List (Pairs × ℤ)) (r : List TraceLine) → SomeAts (at_lines (p ∷ ps) ++ r) r
some-ats p [] r = form.SomeAts.last
some-ats p (q ∷ ps) r = form.SomeAts.more (some-ats q ps r)

row-form : (n : ℕ) (ps : List (Pairs × ℤ)) (t : Sign) (rest : List TraceLine) → ps ≢ [] → WholeRecords rest
    → WholeRecords ((line.Row n ∷ (at_lines ps ++ (line.Sign t ∷ []))) ++ rest)
row-form n [] t rest f w = absurd (f refl)
row-form n (p ∷ ps) t rest f w =
    form.WholeRecords.row (subst (λ (z : List TraceLine). SomeAts z (line.Sign t ∷ rest))
    (sym (append_assoc (at_lines (p ∷ ps)) (line.Sign t ∷ []) rest)) (some-ats p ps (line.Sign t ∷ rest))) w

-- a list that isn't empty tells some vector
some-told : (vars : List VarInfo) (ps : List (Pairs × ℤ)) (ts : List (List ℕ × ℤ)) → AreOf vars ps ts → ts ≢ [] → ps ≢ []
some-told vars [] [] a f = absurd (f refl)
some-told vars [] (t ∷ ts) a f = absurd a
some-told vars (p ∷ ps) ts a f = λ e. absurd (cc)

-- ---- the ranges
exponents-fit : (ps : Pairs) (v : ℕ) → v ≤ 168 → IsRising ps → IsAbove ps v → Each IsExponent ps
exponents-fit [] v h r a = tt
exponents-fit (p ∷ ps) v h r a = ((omega (arith, a.0), r.0, omega (arith, r.1)), exponents-fit ps v h r.3 a.1)

ats-fit : (vars : List VarInfo) (ps : List (Pairs × ℤ)) (ts : List (List ℕ × ℤ)) (rest : List TraceLine) → length vars ≤ 168 → AreOf vars ps ts
    → Each HasSmallValue (at_lines ps ++ rest) → (Each HasSmallValue rest → Each IsLine rest) → Each IsLine (at_lines ps ++ rest)
ats-fit vars [] ts rest h a p f = f p
ats-fit vars (q ∷ ps) [] rest h a p f = absurd a
ats-fit vars (q ∷ ps) (t ∷ ts) rest h a p f = ((exponents-fit q.0 (length vars) h a.0 a.1, p.0), ats-fit vars ps ts rest h a.4 p.1 f)

-- ---- records
record IsSound (lines : List TraceLine) : Type 0 where
  form : WholeRecords lines
  ranges : Each IsLine lines

one-record : (s : Subject) (n : ℕ) (fields : List (List ℕ)) (front rest : List TraceLine) → HaveStages s → length s.vars ≤ 168 → 1 ≤ n → n < 2 ^ 32 →
    Explains s n fields front → Each HasSmallValue (front ++ rest) → (Each HasSmallValue rest → IsSound rest) → IsSound (front ++ rest)
one-record s n fields front rest h v l m (no_row stop e) p f =
    let r = f p.1 in
    record { form = form.WholeRecords.refused r.form; ranges = ((l, m), r.ranges) }
one-record s n fields front rest h v l m (a_row row list ps t e stages told sign) p f =
    let q : Each HasSmallValue (at_lines ps ++ (line.Sign t ∷ rest)) =
    subst (λ (z : List TraceLine). Each HasSmallValue z) (append_assoc (at_lines ps) (line.Sign t ∷ []) rest) p.1 in
    let some = some-told s.vars ps (up_to_first (row_sites s.vars row.index) (values row.values) s.tree list) told (told-some list (h row list stages)) in
    let w = behind ps q in
    record {
      form = row-form n ps t rest some (f w).form;
      ranges = (
        (l, m),
        subst (λ (z : List TraceLine). Each IsLine z) (sym (append_assoc (at_lines ps) (line.Sign t ∷ []) rest)) (ats-fit s.vars ps
            (up_to_first (row_sites s.vars row.index) (values row.values) s.tree list) (line.Sign t ∷ rest) v told q (λ g. (tt, (f g.1).ranges))),
      );
    }
  where
    told-some : (list : List (List ℕ)) → list ≢ [] → up_to_first (row_sites s.vars row.index) (values row.values) s.tree list ≢ []
    told-some [] g = absurd (g refl)
    told-some (a ∷ list) g = λ e. absurd (cc)

    behind : (ps : List (Pairs × ℤ)) → Each HasSmallValue (at_lines ps ++ (line.Sign t ∷ rest)) → Each HasSmallValue rest
    behind [] q = q.1
    behind (x ∷ ps) q = behind ps q.1

all-records : (s : Subject) (n : ℕ) (records : Records) (lines : List TraceLine) → HaveStages s → length s.vars ≤ 168 → 1 ≤ n → n + length records ≤ 2 ^ 32 →
    AreExplained s n records lines → Each HasSmallValue lines → IsSound lines
all-records s n [] lines h v l m e p = subst (λ (z : List TraceLine). IsSound z) (sym e) (record { form = form.WholeRecords.none; ranges = tt })
all-records s n (fields ∷ records) lines h v l m e p =
    let q : Each HasSmallValue (e.0 ++ e.1) = subst (λ (z : List TraceLine). Each HasSmallValue z) e.4 p in
    subst (λ (z : List TraceLine). IsSound z) (sym e.4)
    (one-record s n fields e.0 e.1 h v l (omega arith) e.2 q (λ g. all-records s (n + 1) records e.1 h v (omega arith) (omega arith) e.3 g))

-- the lines explained of fewer than 2^32 records are a trace, where rows have stages, variables are at most 168 and values small
pub explained-trace : (s : Subject) (records : Records) (lines : List TraceLine) → HaveStages s → length s.vars ≤ 168 → length records < 2 ^ 32 →
    AreExplained s 1 records lines → Each HasSmallValue lines → TraceText (first_line ++ text_of_lines lines) lines
explained-trace s records lines h v m e p = let r = all-records s 1 records lines h v (omega arith) (omega arith) e p in records-trace lines r.form r.ranges
