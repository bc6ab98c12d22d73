-- A block that follows the rules: the machine over integers and the processor follow them too.
use Rattle.std.proofs.Common.{◌≡◌, ℕ, ℤ, ◌≤◌, Bool, true, false, List, [], ◌∷◌, refl, zero, suc, ap, arith, neg_ℤ, unsigned_abs, ◌&&◌}
use Rattle.std.specs.Prelude.{Option, Some, None, if◌then◌else◌, slice_get, ◌≤ℤ◌, int_le}
use Rattle.std.proofs.lemmas.Int.{ints}
use Rattle.std.proofs.lemmas.Bool.{leb-true, le-leb, and_parts}
use Rattle.ln_algebra.specs.Tree as tree
use Rattle.ln_algebra.specs.Tree.{Tree}
use Rattle.ln_tree.specs.declared.shape.VarInfo.{VarInfo}
use Rattle.ln_tree.specs.Row.{AreWithin}
use Rattle.ln_bound.specs.declared.fitted.Width.{Width}
use Rattle.ln_bound.specs.declared.fitted.Width.TheVariants.{W64, W128}
use Rattle.ln_bound.specs.declared.fitted.Two.{Two}
use Rattle.ln_bound.specs.declared.fitted.Two.TheVariants.{Plus, Minus, Times}
use Rattle.ln_bound.specs.Value.{value, values, size_of}
use Rattle.ln_bound.specs.Widths.{limit, least, wider, no_wider}
use Rattle.ln_bound.specs.Typed.{bound_of, two_of, range_of}
use Rattle.ln_code.specs.Engine.{when, next}
use Rattle.ln_code.specs.Numbers.{result_of, cut_by, fits}
use Rattle.ln_code.specs.Bare.{bare}
use Rattle.ln_code.proofs.Engines.Follow.{Reaches, Follows, LocalsStand, local_stands, when_some}
use Rattle.ln_code.proofs.Filters.Cutting.{cut_none}
use Rattle.ln_interval.specs.Range.{Range, Holds, Covers, point, opposite, magnitude, most}
use Rattle.ln_bound.specs.Sound.{IsIn, holds, covers, is_in}
use Rattle.ln_code.specs.Exact.{exact, within}
use Rattle.ln_code.specs.Rules.{Known, known, declared, rules}
use Rattle.ln_interval.proofs.Magnitudes.{holds_magnitude, covers_holds}
use Rattle.ln_interval.proofs.Pairs.{sum_holds, difference_holds, opposite_holds, product_holds}
use Rattle.ln_bound.proofs.Soundness.SoundLaws.{covers_say, is_in_says}

-- z is the value that is known by k
pub record Fits (zs : List ℤ) (k : Known) (z : ℤ) : Type 0 where
  pub same : z ≡ value (values zs) [] k.tree
  pub held : Holds k.range z
  pub narrow : magnitude k.range ≤ limit k.width

-- ---- rows
-- the value of a variable, in its range
pub record InRange (zs : List ℤ) (v : ℕ) (i : VarInfo) : Type 0 where
  pub number : ℤ
  pub there : slice_get zs v ≡ Some number
  pub same : number ≡ values zs v
  pub held : Holds (declared i) number

-- each variable of a row in range has a value in its declared range
pub in_range : (vars : List VarInfo) (zs : List ℤ) → AreWithin vars zs → (v : ℕ) (i : VarInfo) → slice_get vars v ≡ Some i → InRange zs v i
in_range [] zs h v i e = cc
in_range (j ∷ js) [] h v i e = absurd h
in_range (j ∷ js) (z ∷ zs) h zero i e =
    let q : j ≡ i = cc in
    rw (← q) (record { number = z; there = refl; same = refl; held = (h.0, h.1) })
in_range (j ∷ js) (z ∷ zs) h (suc v) i e = let r = in_range js zs h.2 v i e in record { number = r.number; there = r.there; same = r.same; held = r.held }

-- the value of a variable, and its size
pub record InSize (zs : List ℤ) (v : ℕ) (i : VarInfo) : Type 0 where
  pub number : ℤ
  pub there : slice_get zs v ≡ Some number
  pub same : number ≡ values zs v
  pub small : unsigned_abs number ≤ size_of i

-- which is of at most its size
pub in_size : (vars : List VarInfo) (zs : List ℤ) → AreWithin vars zs → (v : ℕ) (i : VarInfo) → slice_get vars v ≡ Some i → InSize zs v i
in_size vars zs h v i e =
    let r = in_range vars zs h v i e in
    record { number = r.number; there = r.there; same = r.same; small = small i r.number r.held.0 r.held.1 }
  where
    small : (i : VarInfo) (z : ℤ) → i.lo ≤ℤ z → z ≤ℤ i.hi → unsigned_abs z ≤ size_of i
    small i z l h = omega (arith, ints, l, h)

-- ---- numbers
-- a number and its opposite have the same absolute value
pub abs_neg : (z : ℤ) → unsigned_abs (neg_ℤ z) ≡ unsigned_abs z
abs_neg z = omega (arith, ints)

-- the limit of each width is at most that of 128 bits
pub limit_wide : (w : Width) → limit w ≤ limit W128
limit_wide W64 = omega arith
limit_wide W128 = omega arith

-- and at most itself
pub same_limit : (w : Width) → limit w ≤ limit w
same_limit w = omega arith

-- a width that is no wider has a limit that is no larger
pub no_wider_limit : (w u : Width) → no_wider w u ≡ true → limit w ≤ limit u
no_wider_limit W64 W64 h = omega arith
no_wider_limit W64 W128 h = omega arith
no_wider_limit W128 W64 h = cc
no_wider_limit W128 W128 h = omega arith

-- the result of two operands in their ranges is in the range of the operation
pub two_held : (t : Two) (y z : ℤ) (p q : Range) → Holds p y → Holds q z → Holds (range_of t p q) (result_of t y z)
two_held Plus y z p q h k = sum_holds p q y z h k
two_held Minus y z p q h k = difference_holds p q y z h k
two_held Times y z p q h k = product_holds p q y z h k

-- the test of two integers is true where the first is at most the second
pub le_test : (a b : ℤ) → a ≤ℤ b → int_le a b ≡ true
le_test a b h = grind (arith, ints, h)

-- a conjunction is true where both tests are
pub both : (p q : Bool) → p ≡ true → q ≡ true → (p && q) ≡ true
both p q h k = rw (h, k) refl

-- the test of a value in a range is true where the value is in the range
pub holds_test : (p : Range) (z : ℤ) → Holds p z → holds p z ≡ true
holds_test p z h = both _ _ (le_test _ _ h.0) (le_test _ _ h.1)

-- the test of two ranges is true where the first covers the second
pub covers_test : (p q : Range) → Covers p q → covers p q ≡ true
covers_test p q h = both _ _ (le_test _ _ h.0) (le_test _ _ h.1)

-- a value in its range that fits the width is kept
pub within_is : (p : Range) (w : Width) (z : ℤ) → Holds p z → unsigned_abs z ≤ limit w → within p w z ≡ Some z
within_is p w z h k = rw (both (holds p z) (fits w z) (holds_test p z h) (le-leb _ _ k)) refl

-- ---- what holds where a rule held
-- where a result that depends on a test is there, the test is true, and the result is the one after it
pub if_some : {A : Type 0} (b : Bool) (o : Option A) (a : A) → (if b then o else None) ≡ Some a → (b ≡ true) × (o ≡ Some a)
if_some true o a h = (refl, h)
if_some false o a h = cc

-- where going on with a value has a result, the value is there, and the result is what it leads to
pub next_some : {A B : Type 0} (o : Option A) (f : A → Option B) (b : B) → next o f ≡ Some b → (a : A) × (o ≡ Some a) × (f a ≡ Some b)
next_some None f b h = cc
next_some (Some a) f b h = (a, refl, h)

-- where `known` has a result, its rule holds, and the result is made of what it was given
pub known_some : (enough p : Range) (w : Width) (s : ℕ) (t : Tree) (k : Known) → known enough p w s t ≡ Some k
    → Covers p enough × IsIn p w × (s ≤ most) × (record { range = p; width = w; tree = t; size = s } ≡ k)
known_some enough p w s t k q =
    let r = when_some _ _ _ q in
    let x = and_parts (covers p enough && is_in p w) _ r.0 in
    let y = and_parts (covers p enough) _ x.0 in
    (covers_say p enough y.0, is_in_says p w y.1, leb-true _ _ x.1, r.1)

-- a value in what the range covers is the one that is known
pub kept : (zs : List ℤ) (enough p : Range) (w : Width) (s : ℕ) (t : Tree) (k : Known) (z : ℤ) → z ≡ value (values zs) [] t → Holds enough z
    → known enough p w s t ≡ Some k → Fits zs k z
kept zs enough p w s t k z e h q =
    let r = known_some enough p w s t k q in
    rw (← r.3) (record { same = e; held = covers_holds p enough z r.0 h; narrow = r.1.1 })

-- the machine keeps it
reached : (zs : List ℤ) (enough p : Range) (w u : Width) (s : ℕ) (t : Tree) (k : Known) (z : ℤ) → limit w ≤ limit u
    → z ≡ value (values zs) [] t → Holds enough z → known enough p w s t ≡ Some k → Reaches (Fits zs) k (within p u z)
reached zs enough p w u s t k z l e h q =
    let r = known_some enough p w s t k q in
    let g = covers_holds p enough z r.0 h in
    let m = holds_magnitude p z g in
    let i : within p u z ≡ Some z = within_is p u z g (omega (arith, m, r.1.1, l)) in
    rw i (kept zs enough p w s t k z e h q)

-- a value that is known fits each width that isn't narrower
pub fits_is : (zs : List ℤ) (k : Known) (w : Width) (z : ℤ) → no_wider k.width w ≡ true → Fits zs k z → fits w z ≡ true
fits_is zs k w z h f =
    let a = no_wider_limit k.width w h in
    let b = holds_magnitude k.range z f.held in
    let c = f.narrow in
    le-leb _ _ (omega (arith, a, b, c))

-- ---- operations
-- the result of an operation on two known values is the value of the operation's tree over their trees
pub two_same : (zs : List ℤ) (t : Two) (k m : Known) (y z : ℤ) → Fits zs k y → Fits zs m z → result_of t y z ≡ value (values zs) [] (two_of t k.tree m.tree)
two_same zs Plus k m y z f g = rw (f.same, g.same) refl
two_same zs Minus k m y z f g = rw (f.same, g.same) refl
two_same zs Times k m y z f g = rw (f.same, g.same) refl

number_held : (c : ℤ) → Holds (point c) c
number_held c = (omega (arith, ints), omega (arith, ints))

exact_input : (vars : List VarInfo) (zs : List ℤ) → AreWithin vars zs → (v : ℕ) (p : Range) (k : Known)
    → next (slice_get vars v) (λ i. known (declared i) p (least (magnitude p)) 1 (tree.Input v)) ≡ Some k
    → Reaches (Fits zs) k (next (slice_get zs v) (λ z. within p W128 z))
exact_input vars zs h v p k q =
    let r = next_some (slice_get vars v) (λ (i : VarInfo). known (declared i) p (least (magnitude p)) 1 (tree.Input v)) k q in
    let s = in_range vars zs h v r.0 r.1 in
    rw s.there (reached zs (declared r.0) p (least (magnitude p)) W128 1 (tree.Input v) k s.number (limit_wide _) s.same s.held r.2)

exact_two : (zs : List ℤ) (t : Two) (w : Width) (p : Range) (k m : Known) (y z : ℤ) (v : Known) → Fits zs k y → Fits zs m z
    → (if no_wider k.width w && no_wider m.width w then known (range_of t k.range m.range) p w (bound_of t k.size m.size) (two_of t k.tree m.tree) else None)
    ≡ Some v → Reaches (Fits zs) v (within p w (result_of t y z))
exact_two zs t w p k m y z v f g q =
    let r = if_some _ _ _ q in
    reached zs (range_of t k.range m.range) p w w (bound_of t k.size m.size) (two_of t k.tree m.tree) v (result_of t y z) (same_limit w)
    (two_same zs t k m y z f g) (two_held t y z k.range m.range f.held g.held) r.1

exact_minus : (zs : List ℤ) (w : Width) (p : Range) (m : Known) (y : ℤ) (v : Known) → Fits zs m y
    → (if no_wider m.width w then known (opposite m.range) p w m.size (tree.Neg m.tree) else None) ≡ Some v → Reaches (Fits zs) v (within p w (neg_ℤ y))
exact_minus zs w p m y v f q =
    let r = if_some _ _ _ q in
    reached zs (opposite m.range) p w w m.size (tree.Neg m.tree) v (neg_ℤ y) (same_limit w) (ap neg_ℤ f.same) (opposite_holds m.range y f.held) r.1

-- the machine over integers follows the rules
pub exact_follows : (vars : List VarInfo) (depth : ℕ) (zs : List ℤ) → AreWithin vars zs
    → Follows (rules vars depth) (exact zs) (λ (p : Range). p) (Fits zs) (LocalsStand (Reaches (Fits zs)))
exact_follows vars depth zs h = record {
  push = λ c p k q. reached zs (point c) p (least (magnitude p)) W128 (unsigned_abs c) (tree.Num c) k c (limit_wide _) refl (number_held c) q;
  input = exact_input vars zs h;
  again = λ m y p k f q. reached zs m.range p (wider m.width (least (magnitude p))) W128 m.size m.tree k y (limit_wide _) f.same f.held q;
  two = λ t w p k m y z v f g q. exact_two zs t w p k m y z v f g q;
  minus = λ w p m y v f q. exact_minus zs w p m y v f q;
  cut = λ n p m y v f q. cc;
  got = λ l m j v k q. k j v q;
  put = λ l m j v z h f. local_stands (Reaches (Fits zs)) l m j v (Some z) h f;
  room = λ n q. refl;
}

-- ---- the processor
bare_push : (zs : List ℤ) (c : ℤ) (p : Range) (k : Known) → known (point c) p (least (magnitude p)) (unsigned_abs c) (tree.Num c) ≡ Some k
    → Fits zs k (cut_by 0 c)
bare_push zs c p k q =
    let f : cut_by 0 c ≡ c = cut_none c in
    rw f (kept zs (point c) p (least (magnitude p)) (unsigned_abs c) (tree.Num c) k c refl (number_held c) q)

bare_input : (vars : List VarInfo) (zs : List ℤ) → AreWithin vars zs → (v : ℕ) (p : Range) (k : Known)
    → next (slice_get vars v) (λ i. known (declared i) p (least (magnitude p)) 1 (tree.Input v)) ≡ Some k → Reaches (Fits zs) k (slice_get zs v)
bare_input vars zs h v p k q =
    let r = next_some (slice_get vars v) (λ (i : VarInfo). known (declared i) p (least (magnitude p)) 1 (tree.Input v)) k q in
    let s = in_range vars zs h v r.0 r.1 in
    rw s.there (kept zs (declared r.0) p (least (magnitude p)) 1 (tree.Input v) k s.number s.same s.held r.2)

within_limit : (m l a : ℕ) → a ≤ m → m ≤ l → a ≤ l
within_limit m l a h g = omega (arith, h, g)

bare_two : (zs : List ℤ) (t : Two) (w : Width) (p : Range) (k m : Known) (y z : ℤ) (v : Known) → Fits zs k y → Fits zs m z
    → (if no_wider k.width w && no_wider m.width w then known (range_of t k.range m.range) p w (bound_of t k.size m.size) (two_of t k.tree m.tree) else None)
    ≡ Some v → Reaches (Fits zs) v (when (fits w y && (fits w z && fits w (result_of t y z))) (result_of t y z))
bare_two zs t w p k m y z v f g q =
    let r = if_some _ _ _ q in
    let n = and_parts _ _ r.0 in
    let s = known_some (range_of t k.range m.range) p w (bound_of t k.size m.size) (two_of t k.tree m.tree) v r.1 in
    let a = two_held t y z k.range m.range f.held g.held in
    let b = holds_magnitude p (result_of t y z) (covers_holds p (range_of t k.range m.range) (result_of t y z) s.0 a) in
    let small : unsigned_abs (result_of t y z) ≤ limit w = within_limit (magnitude p) (limit w) (unsigned_abs (result_of t y z)) b s.1.1 in
    let c : fits w (result_of t y z) ≡ true = le-leb (unsigned_abs (result_of t y z)) (limit w) small in
    rw (fits_is zs k w y n.0 f, fits_is zs m w z n.1 g, c)
    (kept zs (range_of t k.range m.range) p w (bound_of t k.size m.size) (two_of t k.tree m.tree) v (result_of t y z) (two_same zs t k m y z f g) a r.1)

bare_minus : (zs : List ℤ) (w : Width) (p : Range) (m : Known) (y : ℤ) (v : Known) → Fits zs m y
    → (if no_wider m.width w then known (opposite m.range) p w m.size (tree.Neg m.tree) else None) ≡ Some v → Reaches (Fits zs) v (when (fits w y) (neg_ℤ y))
bare_minus zs w p m y v f q =
    let r = if_some _ _ _ q in
    rw (fits_is zs m w y r.0 f) (kept zs (opposite m.range) p w m.size (tree.Neg m.tree) v (neg_ℤ y) (ap neg_ℤ f.same) (opposite_holds m.range y f.held) r.1)

-- the processor follows the rules
pub bare_follows : (vars : List VarInfo) (depth places : ℕ) (zs : List ℤ) → AreWithin vars zs → depth ≤ places
    → Follows (rules vars depth) (bare zs places) (λ (p : Range). 0) (Fits zs) (LocalsStand (Fits zs))
bare_follows vars depth places zs h d = record {
  push = bare_push zs;
  input = bare_input vars zs h;
  again = λ m y p k f q. kept zs m.range p (wider m.width (least (magnitude p))) m.size m.tree k y f.same f.held q;
  two = λ t w p k m y z v f g q. bare_two zs t w p k m y z v f g q;
  minus = λ w p m y v f q. bare_minus zs w p m y v f q;
  cut = λ n p m y v f q. cc;
  got = λ l m j v k q. k j v q;
  put = λ l m j v z h f. local_stands (Fits zs) l m j v z h f;
  room = λ n q. le-leb _ _ (room_le n (leb-true _ _ q));
}
  where
    room_le : (n : ℕ) → n ≤ depth → n ≤ places
    room_le n h = omega arith
