-- Proves that the values in a trace of a predicate that isn't too large are within 2^127 - 1.
use Rattle.std.proofs.Common.{◌≡◌, ℕ, ◌+◌, ◌^◌, ◌<◌, ◌≤◌, zero, suc, refl, sym, subst, arith, List, [], ◌∷◌, ◌++◌, length, true, unsigned_abs}
use Rattle.std.proofs.Common.{inl, inr}
use Rattle.std.proofs.Math.IntN.{ℤ, pos, negsuc}
use Rattle.ln_base.specs.Exponents.{Each}
use Rattle.ln_algebra.proofs.Bounding.Bounds.{value-abs}
use Rattle.ln_algebra.proofs.Deriving.Derived.{derivative-coefficient}
use Rattle.ln_algebra.proofs.Walking.Cut.{of_sites, within}
use Rattle.ln_algebra.specs.Earlier.{IsOver, Sites}
use Rattle.ln_algebra.specs.Sign.{perturbed}
use Rattle.ln_algebra.specs.Terms.{derived, value}
use Rattle.ln_algebra.specs.Tree.{Tree}
use Rattle.ln_algebra.specs.Vector.{In}
use Rattle.ln_algebra.specs.Weights.{weighted_sum}
use Rattle.ln_bound.specs.Light.{most}
use Rattle.ln_bound.specs.Value.{sizes}
use Rattle.ln_tree.specs.declared.shape.VarInfo.{VarInfo}
use Rattle.ln_tree.specs.Exps.{Pairs}
use Rattle.ln_tree.specs.Row.{AreWithin, Row, values}
use Rattle.ln_tree.specs.Variables.{is_laid_out}
use Rattle.ln_order.specs.Sites.{row_sites}
use Rattle.ln_poly.proofs.Derivations.Deriving.{derived-light}
use Rattle.ln_poly.specs.Sparse.{terms_of}
use Rattle.ln_code.proofs.Following.Known.{in_size}
use Rattle.ln_rows.specs.Left.{Records}
use Rattle.ln_rows.proofs.Fields.RangeLemmas.{row_in_range}
use Rattle.ln_trace.specs.declared.line.TraceLine.{TraceLine}
use Rattle.ln_trace.specs.declared.line.TraceLine.TheVariants as line
use Rattle.ln_trace.specs.FormLaw.{HasSmallSum, HasSmallValue}
use Rattle.ln_trace.specs.Signs.{AreExplained, AreOf, Explains, a_row, at_lines, no_row}
use Rattle.ln_trace.specs.Told.{stop_at, up_to_first}
use Rattle.ln_trace.specs.Trace.{Subject}

-- ---- one coefficient
-- the value of a variable is at most its M; one that there isn't is 0
value-small : (vars : List VarInfo) (zs : List ℤ) (v : ℕ) → AreWithin vars zs → unsigned_abs (values zs v) ≤ sizes vars v
value-small [] [] v h = omega arith
value-small (i ∷ is) (z ∷ zs) zero h = let s = in_size (i ∷ is) (z ∷ zs) h 0 i refl in rw (← s.same) s.small
value-small (i ∷ is) (z ∷ zs) (suc v) h = value-small is zs v h.2
value-small is zs v h = absurd h

-- the coefficient is the value of a scaled derivative, which is at most the sum of it weighted by M
coefficient-small : (s : Subject) (row : Row) (a : List ℕ) → HasSmallSum s → AreWithin s.vars row.values
    → IsOver (length s.vars) (row_sites s.vars row.index) a
    → unsigned_abs (perturbed (row_sites s.vars row.index) (values row.values) s.tree a) < 2 ^ 127
coefficient-small s row a h r o =
    let n : ℕ = length s.vars in
    let sites : Sites = row_sites s.vars row.index in
    let x : ℕ → ℤ = values row.values in
    let e : value x (derived a (terms_of n h.poly)) ≡ perturbed sites x s.tree a =
    derivative-coefficient n s.tree (terms_of n h.poly) (of_sites sites) x a h.inputs h.normal o.size (within n sites x s.tree h.inputs a o) in
    let b : unsigned_abs (value x (derived a (terms_of n h.poly))) ≤ weighted_sum (sizes s.vars) (derived a (terms_of n h.poly)) =
    value-abs x (sizes s.vars) (derived a (terms_of n h.poly)) (λ v. value-small s.vars row.values v r) in
    let l : weighted_sum (sizes s.vars) (derived a (terms_of n h.poly)) ≤ most = derived-light s.vars a h.poly h.light in
    subst (λ (z : ℤ). unsigned_abs z < 2 ^ 127) e (omega (arith, b, l))

-- ---- those of a list
AreSmall : List (List ℕ × ℤ) → Type 0
AreSmall [] = Unit {0}
AreSmall (t ∷ ts) = (unsigned_abs t.1 < 2 ^ 127) × AreSmall ts

stopped-small : (z : ℤ) (rest : List (List ℕ × ℤ)) → AreSmall rest → AreSmall (stop_at z rest)
unfolding AreSmall
stopped-small (pos zero) rest h = h
stopped-small (pos (suc n)) rest h = tt
stopped-small (negsuc n) rest h = tt

told-small : (sites : Sites) (x : ℕ → ℤ) (e : Tree) (list : List (List ℕ))
    → ((a : List ℕ) → In list a → unsigned_abs (perturbed sites x e a) < 2 ^ 127) → AreSmall (up_to_first sites x e list)
unfolding AreSmall
told-small sites x e [] h = tt
told-small sites x e (a ∷ list) h =
    (h a (inl refl), stopped-small (perturbed sites x e a) (up_to_first sites x e list) (told-small sites x e list (λ b i. h b (inr i))))

-- ---- lines
ats-small : (vars : List VarInfo) (ps : List (Pairs × ℤ)) (ts : List (List ℕ × ℤ)) (rest : List TraceLine) → AreOf vars ps ts → AreSmall ts
    → Each HasSmallValue rest → Each HasSmallValue (at_lines ps ++ rest)
unfolding AreSmall
ats-small vars [] [] rest o h r = r
ats-small vars (p ∷ ps) (t ∷ ts) rest o h r =
    (subst (λ (z : ℤ). unsigned_abs z < 2 ^ 127) (sym o.3) h.0, ats-small vars ps ts rest o.4 h.1 r)
ats-small vars ps ts rest o h r = absurd o

joined-small : (xs ys : List TraceLine) → Each HasSmallValue xs → Each HasSmallValue ys → Each HasSmallValue (xs ++ ys)
joined-small [] ys h k = k
joined-small (x ∷ xs) ys h k = (h.0, joined-small xs ys h.1 k)

record-small : (s : Subject) (n : ℕ) (fields : List (List ℕ)) (lines : List TraceLine) → is_laid_out s.sites s.vars ≡ true → HasSmallSum s
    → Explains s n fields lines → Each HasSmallValue lines
record-small s n fields lines laid h (no_row stop e) = (tt, tt)
record-small s n fields lines laid h (a_row row list ps t e stages told sign) =
    let within = (row_in_range s.sites s.vars fields row laid e).values in
    let small = told-small (row_sites s.vars row.index) (values row.values) s.tree list
    (λ a i. coefficient-small s row a h within (stages.stages a i).over) in
    (tt, ats-small s.vars ps (up_to_first (row_sites s.vars row.index) (values row.values) s.tree list) (line.Sign t ∷ []) told small (tt, tt))

records-small : (s : Subject) (n : ℕ) (records : Records) (lines : List TraceLine) → is_laid_out s.sites s.vars ≡ true → HasSmallSum s
    → AreExplained s n records lines → Each HasSmallValue lines
records-small s n [] lines laid h e = subst (λ (z : List TraceLine). Each HasSmallValue z) (sym e) tt
records-small s n (fields ∷ records) lines laid h e =
    subst (λ (z : List TraceLine). Each HasSmallValue z) (sym e.4)
    (joined-small e.0 e.1 (record-small s n fields e.0 laid h e.2) (records-small s (n + 1) records e.1 laid h e.3))

-- the values in what is explained of records are within 2^127 - 1
pub explained-small : (s : Subject) (records : Records) (lines : List TraceLine) → is_laid_out s.sites s.vars ≡ true → HasSmallSum s
    → AreExplained s 1 records lines → Each HasSmallValue lines
explained-small s records lines laid h e = records-small s 1 records lines laid h e
