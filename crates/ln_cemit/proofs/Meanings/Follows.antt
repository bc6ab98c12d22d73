-- Where the rules know a block's value, the machine as C has it returns that value, at the width that they know.
use Rattle.std.proofs.Common.{◌≡◌, ℕ, ℤ, Bool, true, false, List, [], refl, sym, ap, subst, arith, neg_ℤ, unsigned_abs, ◌&&◌}
use Rattle.std.specs.Prelude.{Option, Some, None, if◌then◌else◌, ◌==◌, slice_get}
use Rattle.std.proofs.lemmas.Bool.{and_parts}
use Rattle.std.proofs.lemmas.Int.{ints}
use Rattle.ln_algebra.specs.Tree as tree
use Rattle.ln_algebra.specs.Tree.{Tree}
use Rattle.ln_interval.specs.Range.{Range, Holds, point, opposite, magnitude}
use Rattle.ln_interval.proofs.Magnitudes.{holds_magnitude, covers_holds}
use Rattle.ln_interval.proofs.Pairs.{opposite_holds}
use Rattle.ln_tree.specs.declared.shape.VarInfo.{VarInfo}
use Rattle.ln_tree.specs.Row.{AreWithin}
use Rattle.ln_bound.specs.declared.fitted.Width.{Width}
use Rattle.ln_bound.specs.declared.fitted.Two.{Two}
use Rattle.ln_bound.specs.Typed.{range_of}
use Rattle.ln_bound.specs.Value.{value, values}
use Rattle.ln_bound.specs.Widths.{least, wider, no_wider}
use Rattle.ln_bound.specs.Typed.{bound_of, two_of}
use Rattle.ln_code.specs.Engine.{next}
use Rattle.ln_code.specs.Numbers.{result_of, cut_by, fits, with_local}
use Rattle.ln_code.specs.Rules.{Known, declared, known, rules}
use Rattle.ln_code.proofs.Engines.Follow.{Reaches, Follows}
use Rattle.ln_code.proofs.Filters.Cutting.{cut_none}
use Rattle.ln_code.proofs.Following.Known.{Fits, in_range, two_held, if_some, next_some, known_some, kept, two_same}
use Rattle.ln_cemit.specs.Ways.{block_way}
use Rattle.ln_cemit.specs.Checked.{Sized, sized, checked}
use Rattle.ln_cemit.proofs.Meanings.Numbers.{fits_from, moved}

-- x is the value that is known by k, at its width
pub record Has (zs : List ℤ) (k : Known) (x : Sized) : Type 0 where
  pub fits : Fits zs k x.number
  pub width : x.width ≡ k.width

-- a value in what the range covers
reached : (zs : List ℤ) (enough p : Range) (w : Width) (s : ℕ) (t : Tree) (k : Known) (z : ℤ) → z ≡ value (values zs) [] t → Holds enough z
    → known enough p w s t ≡ Some k → Reaches (Has zs) k (sized w z)
reached zs enough p w s t k z e h q =
    let r = known_some enough p w s t k q in
    let m = holds_magnitude p z (covers_holds p enough z r.0 h) in
    let i : fits w z ≡ true = fits_from w z (omega (arith, m, r.1.1)) in
    let f = kept zs enough p w s t k z e h q in
    rw i (record { fits = f; width = ap (λ (y : Known). y.width) r.3 })

-- an integer is in the range from it to itself
pub number_held : (c : ℤ) → Holds (point c) c
number_held c = (omega (arith, ints), omega (arith, ints))

push_has : (zs : List ℤ) (c : ℤ) (p : Range) (k : Known) → known (point c) p (least (magnitude p)) (unsigned_abs c) (tree.Num c) ≡ Some k
    → Reaches (Has zs) k (sized (least (magnitude p)) (cut_by 0 c))
push_has zs c p k q =
    let f : cut_by 0 c ≡ c = cut_none c in
    rw f (reached zs (point c) p (least (magnitude p)) (unsigned_abs c) (tree.Num c) k c refl (number_held c) q)

input_has : (vars : List VarInfo) (zs : List ℤ) → AreWithin vars zs → (v : ℕ) (p : Range) (k : Known)
    → next (slice_get vars v) (λ i. known (declared i) p (least (magnitude p)) 1 (tree.Input v)) ≡ Some k
    → Reaches (Has zs) k (next (slice_get zs v) (λ z. sized (least (magnitude p)) z))
input_has vars zs h v p k q =
    let r = next_some (slice_get vars v) (λ (i : VarInfo). known (declared i) p (least (magnitude p)) 1 (tree.Input v)) k q in
    let s = in_range vars zs h v r.0 r.1 in
    rw s.there (reached zs (declared r.0) p (least (magnitude p)) 1 (tree.Input v) k s.number s.same s.held r.2)

again_has : (zs : List ℤ) (m : Known) (x : Sized) (p : Range) (k : Known) → Has zs m x
    → known m.range p (wider m.width (least (magnitude p))) m.size m.tree ≡ Some k → Reaches (Has zs) k (sized (wider x.width (least (magnitude p))) x.number)
again_has zs m x p k h q =
    let r = reached zs m.range p (wider m.width (least (magnitude p))) m.size m.tree k x.number h.fits.same h.fits.held q in
    subst (λ (w : Width). Reaches (Has zs) k (sized (wider w (least (magnitude p))) x.number)) (sym h.width) r

two_has : (zs : List ℤ) (t : Two) (w : Width) (p : Range) (k m : Known) (x y : Sized) (v : Known) → Has zs k x → Has zs m y
    → (if no_wider k.width w && no_wider m.width w then known (range_of t k.range m.range) p w (bound_of t k.size m.size) (two_of t k.tree m.tree) else None)
    ≡ Some v → Reaches (Has zs) v (if no_wider x.width w && no_wider y.width w then sized w (result_of t x.number y.number) else None)
two_has zs t w p k m x y v f g q =
    let r = if_some _ _ _ q in
    let n = and_parts _ _ r.0 in
    let a : no_wider x.width w ≡ true = moved x.width k.width w f.width n.0 in
    let c : no_wider y.width w ≡ true = moved y.width m.width w g.width n.1 in
    rw (a, c) (reached zs (range_of t k.range m.range) p w (bound_of t k.size m.size) (two_of t k.tree m.tree) v (result_of t x.number y.number)
    (two_same zs t k m x.number y.number f.fits g.fits) (two_held t x.number y.number k.range m.range f.fits.held g.fits.held) r.1)

minus_has : (zs : List ℤ) (w : Width) (p : Range) (m : Known) (x : Sized) (v : Known) → Has zs m x
    → (if no_wider m.width w then known (opposite m.range) p w m.size (tree.Neg m.tree) else None) ≡ Some v
    → Reaches (Has zs) v (if no_wider x.width w then sized w (neg_ℤ x.number) else None)
minus_has zs w p m x v f q =
    let r = if_some _ _ _ q in
    let a : no_wider x.width w ≡ true = moved x.width m.width w f.width r.0 in
    rw a
    (reached zs (opposite m.range) p w m.size (tree.Neg m.tree) v (neg_ℤ x.number) (ap neg_ℤ f.fits.same) (opposite_holds m.range x.number f.fits.held) r.1)

-- each local that is known has its value
abbrev pub HasLocals : List ℤ → (ℕ → Option Known) → (ℕ → Option Sized) → Type 0
HasLocals zs l m = (j : ℕ) (k : Known) → l j ≡ Some k → Reaches (Has zs) k (m j)

put_has : (zs : List ℤ) (l : ℕ → Option Known) (m : ℕ → Option Sized) (j : ℕ) (v : Known) (x : Sized) → HasLocals zs l m → Has zs v x
    → HasLocals zs (with_local l j v) (with_local m j x)
put_has zs l m j v x h f i k = by_case (i == j)
  where
    by_case : (b : Bool) → (if b then Some v else l i) ≡ Some k → Reaches (Has zs) k (if b then Some x else m i)
    by_case true q = let r : v ≡ k = cc in rw (← r) f
    by_case false q = h i k q

-- the machine as C has it follows the rules on blocks, on each row in range
pub checked_follows : (vars : List VarInfo) (depth : ℕ) (zs : List ℤ) → AreWithin vars zs
    → Follows (rules vars depth) (checked zs) block_way (Has zs) (HasLocals zs)
checked_follows vars depth zs h = record {
  push = push_has zs;
  input = input_has vars zs h;
  again = again_has zs;
  two = two_has zs;
  minus = minus_has zs;
  cut = λ n b m x v f q. cc;
  got = λ l m j v k q. k j v q;
  put = put_has zs;
  room = λ n q. refl;
}
