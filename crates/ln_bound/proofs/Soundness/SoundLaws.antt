-- The values of a sound tree are in its ranges.
use Rattle.std.proofs.Common.{◌≡◌, ℕ, ℤ, Bool, true, List, [], ◌∷◌, ◌++◌, length, map, refl, zero, suc, arith, pos, sym, append_assoc, append-nil}
use Rattle.std.specs.Prelude.{Option, Some, None, slice_get, slice_index_or, nat_lt, int_le, ◌&&◌, ◌≤ℤ◌}
use Rattle.std.proofs.lemmas.Bool.{and_parts}
use Rattle.std.proofs.lemmas.Int.{ints}
use Rattle.std.proofs.lemmas.List.{map-append}
use Rattle.ln_algebra.specs.Tree.{Tree, Num, Input, Name, Neg, Add, Sub, Mul, Pow}
use Rattle.ln_tree.specs.declared.shape.VarInfo.{VarInfo}
use Rattle.ln_tree.specs.Row.{AreWithin}
use Rattle.ln_bound.specs.declared.fitted.Width.{Width}
use Rattle.ln_bound.specs.declared.fitted.Two.{Two}
use Rattle.ln_bound.specs.declared.fitted.Two.TheVariants.{Plus, Minus, Times}
use Rattle.ln_bound.specs.Value.{value, values}
use Rattle.ln_bound.specs.Light.{let_values}
use Rattle.ln_bound.specs.Room.{HasRoom}
use Rattle.ln_bound.specs.Widths.{no_wider}
use Rattle.ln_bound.proofs.Soundness.WidthLaws.{le_test, lt_test}
use Rattle.ln_interval.specs.Range.{Range, Holds, Covers, point, opposite, power}
use Rattle.ln_bound.specs.Ranges.{ranges}
use Rattle.ln_algebra.specs.Sizes.{one}
use Rattle.ln_bound.specs.Typed.{Typed, TNum, TInput, TLet, TNeg, TTwo, TPow, pair, width, untyped, two_of, range_of}
use Rattle.ln_bound.specs.Sound.{CoversLet, IsIn, SoundNodes, Sound, AreSound, running, holds, covers, covers_let, is_in, has_room}
use Rattle.ln_bound.specs.Sound.{sound_nodes, is_sound, are_sound, Fits, IsBounded, AreBounded}
use Rattle.ln_interval.proofs.Magnitudes.{holds_magnitude, covers_holds}
use Rattle.ln_bound.proofs.Soundness.RangeLaws.{AllHold, in_ranges, more_held, more_long}
use Rattle.ln_interval.proofs.Pairs.{sum_holds, difference_holds, opposite_holds, product_holds, power_holds}

-- ---- the tests say what they test
le_says : (a b : ℤ) → int_le a b ≡ true → a ≤ℤ b
le_says a b e = grind (arith, ints, e)

holds_says : (p : Range) (z : ℤ) → holds p z ≡ true → Holds p z
holds_says p z h = let e = and_parts (int_le p.low z) _ h in (le_says _ _ e.0, le_says _ _ e.1)

-- the test whether a range covers another is true only where it does
pub covers_say : (p q : Range) → covers p q ≡ true → Covers p q
covers_say p q h = let e = and_parts (int_le p.low q.low) _ h in (le_says _ _ e.0, le_says _ _ e.1)

-- the test of a range and a width is true only where the range is in order and fits the width
pub is_in_says : (p : Range) (w : Width) → is_in p w ≡ true → IsIn p w
is_in_says p w h = let e = and_parts (int_le p.low p.high) _ h in (le_says _ _ e.0, le_test _ _ e.1)

let_says : (o : Option Typed) (p : Range) (w : Width) → covers_let o p w ≡ true → CoversLet o p w
let_says None p w h = cc
let_says (Some u) p w h = let e = and_parts (covers p (pair u)) _ h in (covers_say p (pair u) e.0, e.1)

-- the test of a node over one operand
one_says : (b : Bool) (p q : Range) (v w : Width) → (b && covers p q && is_in p w && no_wider v w) ≡ true
    → (b ≡ true) × Covers p q × IsIn p w × (no_wider v w ≡ true)
one_says b p q v w h =
    let x = and_parts (b && covers p q && is_in p w) _ h in
    let y = and_parts (b && covers p q) _ x.0 in
    let z = and_parts b _ y.0 in
    (z.0, covers_say p q z.1, is_in_says p w y.1, x.1)

-- the test of a node over two operands
two_says : (b c : Bool) (p q : Range) (u v w : Width) → (b && c && covers p q && is_in p w && no_wider u w && no_wider v w) ≡ true
    → (b ≡ true) × (c ≡ true) × Covers p q × IsIn p w × (no_wider u w ≡ true) × (no_wider v w ≡ true)
two_says b c p q u v w h =
    let x = and_parts (b && c && covers p q && is_in p w && no_wider u w) _ h in
    let y = one_says (b && c) p q u w x.0 in
    let z = and_parts b c y.0 in
    (z.0, z.1, y.1, y.2, y.3, x.1)

nodes_say : (vars : List VarInfo) (lets : List Typed) (t : Typed) → sound_nodes vars lets t ≡ true → SoundNodes vars lets t
nodes_say vars lets (TNum c p w) h = let e = and_parts (holds p c) _ h in (holds_says p c e.0, is_in_says p w e.1)
nodes_say vars lets (TInput v p w) h =
    let x = and_parts (nat_lt v (length vars) && covers p (ranges vars v)) _ h in
    let y = and_parts (nat_lt v (length vars)) _ x.0 in
    (lt_test _ _ y.0, covers_say p (ranges vars v) y.1, is_in_says p w x.1)
nodes_say vars lets (TLet j p w) h = let e = and_parts (covers_let (slice_get lets j) p w) _ h in (let_says (slice_get lets j) p w e.0, is_in_says p w e.1)
nodes_say vars lets (TNeg t p w) h =
    let e = one_says (sound_nodes vars lets t) p (opposite (pair t)) (width t) w h in
    (nodes_say vars lets t e.0, e.1, e.2, e.3)
nodes_say vars lets (TTwo k s t p w) h =
    let e = two_says (sound_nodes vars lets s) (sound_nodes vars lets t) p (range_of k (pair s) (pair t)) (width s) (width t) w h in
    (nodes_say vars lets s e.0, nodes_say vars lets t e.1, e.2, e.3, e.4, e.5)
nodes_say vars lets (TPow t n p w) h =
    let e = one_says (sound_nodes vars lets t) p (power (pair t) n) (width t) w h in
    (nodes_say vars lets t e.0, e.1, e.2, e.3)

room_says : (ss : List ℕ) (e : Tree) → has_room ss e ≡ true → HasRoom one ss e
room_says ss (Num c) h = le_test _ _ h
room_says ss (Input v) h = le_test _ _ h
room_says ss (Name j) h = le_test _ _ h
room_says ss (Neg e) h = let x = and_parts (has_room ss e) _ h in (room_says ss e x.0, le_test _ _ x.1)
room_says ss (Add e f) h =
    let x = and_parts (has_room ss e && has_room ss f) _ h in
    let y = and_parts (has_room ss e) _ x.0 in
    (room_says ss e y.0, room_says ss f y.1, le_test _ _ x.1)
room_says ss (Sub e f) h =
    let x = and_parts (has_room ss e && has_room ss f) _ h in
    let y = and_parts (has_room ss e) _ x.0 in
    (room_says ss e y.0, room_says ss f y.1, le_test _ _ x.1)
room_says ss (Mul e f) h =
    let x = and_parts (has_room ss e && has_room ss f) _ h in
    let y = and_parts (has_room ss e) _ x.0 in
    (room_says ss e y.0, room_says ss f y.1, le_test _ _ x.1)
room_says ss (Pow e n) h = let x = and_parts (has_room ss e) _ h in (room_says ss e x.0, le_test _ _ x.1)

-- the test of soundness is true only of sound trees
pub is_sound_says : (vars : List VarInfo) (lets : List Typed) (t : Typed) → is_sound vars lets t ≡ true → Sound vars lets t
is_sound_says vars lets t h =
    let x = and_parts (sound_nodes vars lets t && has_room (running lets) (untyped t)) _ h in
    let y = and_parts (sound_nodes vars lets t) _ x.0 in
    record { nodes = nodes_say vars lets t y.0; sizes = room_says (running lets) (untyped t) y.1; deep = le_test _ _ x.1 }

-- the test of soundness is true only of sound lets
pub are_sound_say : (vars : List VarInfo) (done ts : List Typed) → are_sound vars done ts ≡ true → AreSound vars done ts
are_sound_say vars done [] h = tt
are_sound_say vars done (t ∷ ts) h = let p = and_parts (is_sound vars done t) _ h in (is_sound_says vars done t p.0, are_sound_say vars (done ++ t ∷ []) ts p.1)

-- ---- values
-- a sum, difference or product of values in p and q
two_holds : (k : Two) (x : ℕ → ℤ) (zs : List ℤ) (e f : Tree) (p q : Range) → Holds p (value x zs e) → Holds q (value x zs f)
    → Holds (range_of k p q) (value x zs (two_of k e f))
two_holds Plus x zs e f p q h g = sum_holds p q _ _ h g
two_holds Minus x zs e f p q h g = difference_holds p q _ _ h g
two_holds Times x zs e f p q h g = product_holds p q _ _ h g

let_within : (lets : List Typed) (j : ℕ) (o : Option Typed) (p : Range) (w : Width) → slice_get lets j ≡ o → CoversLet o p w
    → Covers p (slice_index_or (map pair lets) j (point (pos 0)))
let_within lets j None p w e c = absurd c
let_within lets j (Some u) p w e c = found lets j e
  where
    found : (lets : List Typed) (j : ℕ) → slice_get lets j ≡ Some u → Covers p (slice_index_or (map pair lets) j (point (pos 0)))
    found [] j h = cc
    found (t ∷ ts) zero h = let q : t ≡ u = cc in rw q c.0
    found (t ∷ ts) (suc j) h = found ts j h

fits_in : (z : ℤ) (p q : Range) (w : Width) → Holds q z → Covers p q → IsIn p w → Fits z p w
fits_in z p q w h c i =
    let g = covers_holds p q z c h in
    let m = holds_magnitude p z g in
    (g, omega (arith, m, i.1))

-- the value of a bounded tree is in the range of its root
pub root_held : (x : ℕ → ℤ) (zs : List ℤ) (t : Typed) → IsBounded x zs t → Holds (pair t) (value x zs (untyped t))
root_held x zs (TNum c p w) h = h.0
root_held x zs (TInput v p w) h = h.0
root_held x zs (TLet j p w) h = h.0
root_held x zs (TNeg t p w) h = h.1.0
root_held x zs (TTwo k s t p w) h = h.2.0
root_held x zs (TPow t n p w) h = h.1.0

covers_itself : (p : Range) → Covers p p
covers_itself p = (omega (arith, ints), omega (arith, ints))

-- each node's value is in its range and fits its width, where the lets' values are in theirs
pub nodes_bounded : (vars : List VarInfo) (lets : List Typed) (x : ℕ → ℤ) (zs : List ℤ) → ((v : ℕ) → Holds (ranges vars v) (x v))
    → AllHold (map pair lets) zs → (t : Typed) → SoundNodes vars lets t → IsBounded x zs t
nodes_bounded vars lets x zs h l (TNum c p w) s = fits_in c p p w s.0 (covers_itself p) s.1
nodes_bounded vars lets x zs h l (TInput v p w) s = fits_in (x v) p (ranges vars v) w (h v) s.1 s.2
nodes_bounded vars lets x zs h l (TLet j p w) s = fits_in (slice_index_or zs j (pos 0)) p (slice_index_or (map pair lets) j (point (pos 0))) w
    (l j) (let_within lets j (slice_get lets j) p w refl s.0) s.1
nodes_bounded vars lets x zs h l (TNeg t p w) s =
    let ih = nodes_bounded vars lets x zs h l t s.0 in
    (ih, fits_in _ p (opposite (pair t)) w (opposite_holds (pair t) _ (root_held x zs t ih)) s.1 s.2)
nodes_bounded vars lets x zs h l (TTwo k u t p w) s =
    let a = nodes_bounded vars lets x zs h l u s.0 in
    let b = nodes_bounded vars lets x zs h l t s.1 in (
      a,
      b,
      fits_in (value x zs (two_of k (untyped u) (untyped t))) p (range_of k (pair u) (pair t)) w
          (two_holds k x zs (untyped u) (untyped t) (pair u) (pair t) (root_held x zs u a) (root_held x zs t b)) s.2 s.3,
    )
nodes_bounded vars lets x zs h l (TPow t n p w) s =
    let ih = nodes_bounded vars lets x zs h l t s.0 in
    (ih, fits_in _ p (power (pair t) n) w (power_holds (pair t) n (value x zs (untyped t)) (root_held x zs t ih)) s.1 s.2)

-- ---- rows
-- lets that are bounded, with their values in their ranges
pub record LetsWithin (x : ℕ → ℤ) (zs : List ℤ) (done ts : List Typed) : Type 0 where
  pub bounded : AreBounded x zs ts
  pub within : AllHold (map pair (done ++ ts)) (let_values x zs (map untyped ts))

pairs_more : (done : List Typed) (t : Typed) → map pair (done ++ t ∷ []) ≡ map pair done ++ pair t ∷ []
pairs_more done t = map-append pair done (t ∷ [])

-- sound lets are bounded, with their values in their ranges, where the values of the variables and of the lets before are in theirs
pub lets_bounded : (vars : List VarInfo) (x : ℕ → ℤ) (zs : List ℤ) (done ts : List Typed) → ((v : ℕ) → Holds (ranges vars v) (x v))
    → length (map pair done) ≡ length zs → AllHold (map pair done) zs → AreSound vars done ts → LetsWithin x zs done ts
lets_bounded vars x zs done [] h n l s = record { bounded = tt; within = let a : done ++ [] ≡ done = append-nil done in rw a l }
lets_bounded vars x zs done (t ∷ ts) h n l s =
    let b = nodes_bounded vars done x zs h l t s.0.nodes in
    let z = value x zs (untyped t) in
    let e = pairs_more done t in
    let r = lets_bounded vars x (zs ++ z ∷ []) (done ++ t ∷ []) ts h (rw e (more_long (map pair done) zs (pair t) z n))
    (rw e (more_held (map pair done) zs (pair t) z n (root_held x zs t b) l)) s.1 in
    record { bounded = (b, r.bounded); within = let a : done ++ t ∷ ts ≡ (done ++ t ∷ []) ++ ts = sym (append_assoc done (t ∷ []) ts) in rw a r.within }

nothing_held : AllHold [] []
nothing_held j = (omega (arith, ints), omega (arith, ints))

-- on a row in range the lets are bounded
pub sound_lets : (vars : List VarInfo) (zs : List ℤ) (lets : List Typed) → AreWithin vars zs → AreSound vars [] lets → AreBounded (values zs) [] lets
sound_lets vars zs lets h s = (lets_bounded vars (values zs) [] [] lets (in_ranges vars zs h) refl nothing_held s).bounded

-- on a row in range a sound tree after sound lets is bounded
pub sound_tree : (vars : List VarInfo) (zs : List ℤ) (lets : List Typed) (t : Typed) → AreWithin vars zs → AreSound vars [] lets
    → Sound vars lets t → IsBounded (values zs) (let_values (values zs) [] (map untyped lets)) t
sound_tree vars zs lets t h s r =
    let w = lets_bounded vars (values zs) [] [] lets (in_ranges vars zs h) refl nothing_held s in
    nodes_bounded vars lets (values zs) (let_values (values zs) [] (map untyped lets)) (in_ranges vars zs h) w.within t r.nodes
