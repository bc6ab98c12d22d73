-- Equal subtrees, and lists of subtrees with one more.
use Rattle.std.proofs.Common.{◌≡◌, ◌&&◌, true, false, Bool, ℕ, zero, suc, ℤ, List, [], ◌∷◌, ◌++◌, Some, refl, ap, sym, ◌∙◌, subst, true≢false}
use Rattle.std.specs.Prelude.{◌==◌, if◌then◌else◌, slice_get}
use Rattle.std.specs.List.{list_any}
use Rattle.indexmap.specs.IndexSet.{insert_key}
use Rattle.ln_lower.specs.Distinct.{Added, Extends}
use Rattle.std.specs.Ordering.{int_eq}
use Rattle.std.specs.Cmp.{signed_Decides}
use Rattle.std.proofs.lemmas.Bool.{eqb-true, and_parts}
use Rattle.ln_lower.specs.declared.distinct.Key.{Key}
use Rattle.ln_lower.specs.declared.distinct.KeyOp.{KeyOp}
use Rattle.ln_lower.specs.declared.distinct.KeyOp.TheVariants.{Number, Variable, Name, Opposite, Both, Raised}
use Rattle.ln_bound.specs.declared.fitted.Two.{Two}
use Rattle.ln_bound.specs.declared.fitted.Two.TheVariants.{Plus, Minus, Times}
use Rattle.ln_bound.specs.declared.fitted.Width.{Width}
use Rattle.ln_bound.specs.declared.fitted.Width.TheVariants.{W64, W128}
use Rattle.ln_bound.specs.contracts.fitted.WidthPartialEq.TheImpl as width
use Rattle.ln_lower.specs.contracts.distinct.KeyPartialEq.TheImpl as key
use Rattle.ln_lower.specs.contracts.distinct.KeyOpPartialEq.TheImpl as op

same_both : (o p : Two) (x y z w : ℕ) → (op.ghosts).eq (Both o x y) (Both p z w) ≡ true → Both o x y ≡ Both p z w
same_both Plus Plus x y z w h = let k = and_parts (x == z) (y == w) h in ap (λ (a : ℕ). Both Plus a y) (eqb-true x z k.0) ∙ ap (Both Plus z) (eqb-true y w k.1)
same_both Minus Minus x y z w h =
    let k = and_parts (x == z) (y == w) h in
    ap (λ (a : ℕ). Both Minus a y) (eqb-true x z k.0) ∙ ap (Both Minus z) (eqb-true y w k.1)
same_both Times Times x y z w h =
    let k = and_parts (x == z) (y == w) h in
    ap (λ (a : ℕ). Both Times a y) (eqb-true x z k.0) ∙ ap (Both Times z) (eqb-true y w k.1)
same_both o p x y z w h = absurd (true≢false (sym h))

same_op : (a b : KeyOp) → (op.ghosts).eq a b ≡ true → a ≡ b
same_op (Number c) (Number d) h = ap Number ((signed_Decides c d).0 h)
same_op (Variable c) (Variable d) h = ap Variable (eqb-true c d h)
same_op (Name c) (Name d) h = ap Name (eqb-true c d h)
same_op (Opposite c) (Opposite d) h = ap Opposite (eqb-true c d h)
same_op (Both o x y) (Both p z w) h = same_both o p x y z w h
same_op (Raised x m) (Raised y n) h = let k = and_parts (x == y) (m == n) h in ap (λ (a : ℕ). Raised a m) (eqb-true x y k.0) ∙ ap (Raised y) (eqb-true m n k.1)
same_op a b h = absurd (true≢false (sym h))

same_width : (v w : Width) → (width.ghosts).eq v w ≡ true → v ≡ w
same_width W64 W64 h = refl
same_width W128 W128 h = refl
same_width v w h = absurd (true≢false (sym h))

key_by : (x y : Key) → x.op ≡ y.op → x.low ≡ y.low → x.high ≡ y.high → x.width ≡ y.width → x ≡ y
key_by x y a b c d =
    ap (λ (o : KeyOp). record x { op = o }) a ∙ ap (λ (z : ℤ). record x { op = y.op; low = z }) b
    ∙ ap (λ (z : ℤ). record x { op = y.op; low = y.low; high = z }) c
    ∙ ap (λ (w : Width). record x { op = y.op; low = y.low; high = y.high; width = w }) d

-- subtrees that compare as equal are one
same_key : (x y : Key) → (key.ghosts).eq x y ≡ true → x ≡ y
same_key x y h =
    let p = and_parts ((op.ghosts).eq x.op y.op) (int_eq x.low y.low && (int_eq x.high y.high && (width.ghosts).eq x.width y.width)) h in
    let q = and_parts (int_eq x.low y.low) (int_eq x.high y.high && (width.ghosts).eq x.width y.width) p.1 in
    let r = and_parts (int_eq x.high y.high) ((width.ghosts).eq x.width y.width) q.1 in
    key_by x y (same_op x.op y.op p.0) ((signed_Decides x.low y.low).0 q.0) ((signed_Decides x.high y.high).0 r.0) (same_width x.width y.width r.1)

-- a list goes on after another
extends_behind : (ks ls : List Key) → Extends ks (ks ++ ls)
extends_behind [] ls k x h = absurd (cc)
extends_behind (y ∷ ks) ls zero x h = h
extends_behind (y ∷ ks) ls (suc k) x h = extends_behind ks ls k x h

extends_by : (b : Bool) (ks : List Key) (x : Key) → Extends ks (if b then ks else ks ++ x ∷ [])
extends_by true ks x k y h = h
extends_by false ks x k y h = extends_behind ks (x ∷ []) k y h

-- what an insertion does
pub key_added : (ks ls : List Key) (k : ℕ) (x : Key) → ls ≡ insert_key (key.ghosts).eq ks x
    → (y : Key) × (slice_get ls k ≡ Some y) × ((key.ghosts).eq x y ≡ true) → Added ks ls k x
key_added ks ls k x e s = record {
  there = s.1 ∙ ap (λ (y : Key). Some y) (sym (same_key x s.0 s.2));
  more = subst (λ (ms : List Key). Extends ks ms) (sym e) (extends_by (list_any ((key.ghosts).eq x) ks) ks x);
}
